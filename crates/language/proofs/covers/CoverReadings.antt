-- The one fact about a cover, from what was read: each of its readings is found or absent, by its shape (ECMA-262 12.2.10, 12.15.5, 14.2.1).
use Rattle.std.proofs.Common.{◌≡◌, ℕ, Bool, true, false, List, refl, sym, ap, ◌∙◌, subst}
use Rattle.std.specs.Prelude.{IsTrue, Option, Some, None, codes}
use Rattle.tokens.specs.declared.token.TokenClass.TheVariants.{IdentifierName, Punctuator}
use Rattle.tokens.specs.declared.token.Goal.TheVariants.{Div}
use Rattle.tokens.specs.Goals.{allows}
use Rattle.tree.specs.declared.kind.Kind.{Kind}
use Rattle.tree.specs.declared.kind.Flags.{Flags}
use Rattle.tree.specs.declared.kind.Pair.{Pair}
use Rattle.tree.specs.Tree.{Tree, Parts, kind_of}
use Rattle.language.specs.declared.Rank.TheVariants.{Assignment}
use Rattle.language.specs.declared.Start.TheVariants.{Any}
use Rattle.language.specs.Pieces.{name, pattern}
use Rattle.language.specs.Token.{Token}
use Rattle.language.specs.Covers.{with_parts}
use Rattle.language.specs.Promises.{is_free, IsDetermined, Found, Absent, AbsentAt}
use Rattle.language.specs.Derivation.{Reads}
use Rattle.language.proofs.climbing.Leaves.{name_form}
use Rattle.language.proofs.covers.PatternsByToken.{no_pattern}
use Rattle.language.proofs.covers.CoverSpreads.{has_default, two_texts}

some_trees : {m n : Tree} → Some m ≡ Some n → m ≡ n
some_trees e = cc

-- only an assignment is a default
kept : (k : Kind) (w : List ℕ) (g : Flags) (st en : ℕ) {m : Tree} (x : Option Parts) → has_default k ≡ false → with_parts k w g st en x ≡ Some m → has_default (kind_of m) ≡ false
kept k w g st en None f h = cc
kept k w g st en (Some qs) f h = ap (λ c. has_default (kind_of c)) (sym (some_trees h)) ∙ f

module _ (S : Type 0) (Next : S → Token → S → Type 0) (behind : S → Token) (det : IsDetermined S Next behind) where
  -- a name and a sign aren't read at one place
  pub name_or_sign : {w w' : List ℕ} {s e e' : S} {t t' : Token} → IsTrue (allows Div Punctuator w') → Reads S Next behind IdentifierName w s t e → Reads S Next behind Punctuator w' s t' e' → ⊥
  name_or_sign {w} {w'} {s} {e} {e'} {t} {t'} al h k =
      let a' : IsTrue (allows Div t'.class t'.text) = subst (λ v. IsTrue (allows Div v t'.text)) (sym k.class) (subst (λ v. IsTrue (allows Div Punctuator v)) (sym k.text) al) in
      let same = det.same Div s t t' e e' h.next k.next (det.free Div s t e h.next (ap is_free h.class)) a' in
      clash (sym h.class ∙ ap (λ (v : Token). v.class) same.0 ∙ k.class)
    where
      clash : IdentifierName ≡ Punctuator → ⊥
      clash e = cc

  -- behind another sign, and where a name stands, no pattern does
  pub unbracketed : {b : Bool} {s : S} → ((w : List ℕ) (t : Token) (m : S) → IsTrue (allows Div Punctuator w) → Reads S Next behind Punctuator w s t m → w ≡ codes "(") → AbsentAt S Next behind (pattern b Any) s
  unbracketed alone = no_pattern S Next behind det (λ t m h. of (alone (codes "[") t m refl h)) (λ t m h. of' (alone (codes "{") t m refl h))
    where
      of : codes "[" ≡ codes "(" → ⊥
      of h = cc

      of' : codes "{" ≡ codes "(" → ⊥
      of' h = cc

  pub named_unbracketed : {b : Bool} {w : List ℕ} {s e : S} {t : Token} → Reads S Next behind IdentifierName w s t e → AbsentAt S Next behind (pattern b Any) s
  named_unbracketed h = no_pattern S Next behind det (λ t m k. name_or_sign refl h k) (λ t m k. name_or_sign refl h k)

  pub grouped_unbracketed : {b : Bool} {s e : S} {t : Token} → Reads S Next behind Punctuator (codes "(") s t e → AbsentAt S Next behind (pattern b Any) s
  grouped_unbracketed h = unbracketed (λ w t m al k. two_texts S Next behind det al refl k h)

  pub grouped_unnamed : {s e : S} {t : Token} → Reads S Next behind Punctuator (codes "(") s t e → AbsentAt S Next behind name s
  grouped_unnamed h = record { nothing = λ o' e' n' P' d. name_or_sign refl (name_form S Next behind det d).0.reads h }

  -- what was read, as an expression; and as a bare pattern
  pub data ReadAs (o : ℕ) (s e : S) (n : Tree) (P : List Pair) : Bool → Type 0 where
    read : Found S Next behind o Assignment true Any s e n P → ReadAs o s e n P true
    not_read : Absent S Next behind Assignment true Any s → ReadAs o s e n P false
