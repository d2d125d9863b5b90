-- What is found, as a given derivation has it; and that a statement ends at one place only.
use Rattle.std.proofs.Common.{◌≡◌, ℕ, Bool, true, false, List, refl, sym, ap, ◌∙◌, subst}
use Rattle.std.specs.Prelude.{IsTrue, codes, not, ◌&&◌, if◌then◌else◌}
use Rattle.std.specs.Bool.{beq}
use Rattle.std.proofs.lemmas.Bool.{and_parts, false≢true}
use Rattle.tokens.specs.declared.token.TokenClass.{TokenClass}
use Rattle.tokens.specs.declared.token.TokenClass.TheVariants.{Punctuator}
use Rattle.tokens.specs.declared.token.Goal.{Goal}
use Rattle.tokens.specs.declared.token.Goal.TheVariants.{Div, TemplateTail}
use Rattle.tokens.specs.Alphabet.{one_of, begins_with}
use Rattle.tokens.specs.Goals.{allows, is_regexp, is_template_part, reads_regexps, reads_template_parts}
use Rattle.tree.specs.declared.kind.Pair.{Pair}
use Rattle.tree.specs.Tree.{Tree, Parts}
use Rattle.language.specs.Vocabulary.{is}
use Rattle.language.specs.Edges.{is_semicolon, may_omit_semicolon}
use Rattle.language.specs.Pieces.{Role, PieceOf, Ending, ending}
use Rattle.language.specs.Token.{Token}
use Rattle.language.specs.Promises.{IsDetermined, FoundAt}
use Rattle.language.specs.Following.{FoundWhere, FoundPartsWhere}
use Rattle.language.specs.Grammar.{ways}
use Rattle.language.specs.Derivation.{Reads, Spells, Runs, Step, explicit, implicit}
use Rattle.language.proofs.climbing.Conditionals.{same_sign}

-- each token is read by some goal
pub some_goal : (c : TokenClass) (w : List ℕ) → (g : Goal) × IsTrue (allows g c w)
some_goal c w = of (begins_with (one_of "/") w) (begins_with (one_of "}") w) (is_regexp c) (is_template_part c)
  where
    of : (x y p q : Bool) → (g : Goal) × IsTrue (if x then beq p (reads_regexps g) else if y then beq q (reads_template_parts g) else true)
    of true y true q = (Goal.RegExp, refl)
    of true y false q = (Div, refl)
    of false true p true = (TemplateTail, refl)
    of false true p false = (Div, refl)
    of false false p q = (Div, refl)

module _ (S : Type 0) (Next : S → Token → S → Type 0) (behind : S → Token) (det : IsDetermined S Next behind) where
  -- what is found is the only one, and the given one is it
  pub found_as : {Fine : Tree → S → Type 0} {o o' : ℕ} {a : Role} {s e e' : S} {n n' : Tree} {P P' : List Pair} → FoundWhere S Next behind Fine o' a s e' n' P' → Spells ways S Next behind o a n s e P → Fine n e → FoundWhere S Next behind Fine o a s e n P
  found_as {o = o} {e = e} {n = n} {P = P} found d fine =
      let here = found.only o e n P d fine in
      record { spelled = d; only = λ o1 e1 n1 P1 d1 fine1. (let there = found.only o1 e1 n1 P1 d1 fine1 in (there.0 ∙ sym here.0, there.1 ∙ sym here.1, there.2 ∙ sym here.2)) }

  pub found_at_as : {o o' : ℕ} {a : Role} {s e e' : S} {n n' : Tree} {P P' : List Pair} → FoundAt S Next behind o' a s e' n' P' → Spells ways S Next behind o a n s e P → FoundAt S Next behind o a s e n P
  found_at_as {o = o} {e = e} {n = n} {P = P} found d =
      let here = found.only o e n P d in
      record { spelled = d; only = λ o1 e1 n1 P1 d1. (let there = found.only o1 e1 n1 P1 d1 in (there.0 ∙ sym here.0, there.1 ∙ sym here.1, there.2 ∙ sym here.2)) }

  pub parts_as : {Fine : Parts → S → Type 0} {o o' : ℕ} {pieces : Parts → List (PieceOf Role)} {s e e' : S} {ps ps' : Parts} {P P' : List Pair} → FoundPartsWhere S Next behind Fine o' pieces s e' ps' P' → Runs ways S Next behind o (pieces ps) ps s e P → Fine ps e →
      FoundPartsWhere S Next behind Fine o pieces s e ps P
  parts_as {o = o} {e = e} {ps = ps} {P = P} found d fine =
      let here = found.only o e ps P d fine in
      record { runs = d; only = λ o1 e1 ps1 P1 d1 fine1. (let there = found.only o1 e1 ps1 P1 d1 fine1 in (there.0 ∙ sym here.0, there.1 ∙ sym here.1, there.2 ∙ sym here.2)) }

  -- where a `;` is read it isn't missing
  no_semicolon : (y : Ending) {s m k : S} {t u : Token} → Reads S Next behind Punctuator (codes ";") s t m → Next s u k → IsTrue (may_omit_semicolon y (behind s) u) → ⊥
  no_semicolon y {s} {m} {k} {t} {u} h nx miss =
      let g = some_goal u.class u.text in
      let al : IsTrue (allows g.0 t.class t.text) = subst (λ v. IsTrue (allows g.0 v t.text)) (sym h.class) (subst (λ v. IsTrue (allows g.0 Punctuator v)) (sym h.text) refl) in
      let same = (det.same g.0 s u t k m nx h.next g.1 al).0 in
      let semicolon : is_semicolon u ≡ true = ap is_semicolon same ∙ ap (λ c. is_semicolon (record { class = c; text = t.text; start = 0; stop = 0; after_break = false })) h.class ∙ ap (λ w. is w ";") h.text in
      false≢true (sym (ap not semicolon) ∙ first (not (is_semicolon u)) _ miss)
    where
      first : (a b : Bool) → (a && b) ≡ true → a ≡ true
      first a b h = (and_parts a b h).0

  -- the end of a statement is one
  pub ends_once : {y : Ending} {s e e' : S} → Step S Next behind (ending y) s e → Step S Next behind (ending y) s e' → e' ≡ e
  ends_once (explicit h) (explicit k) = (same_sign S Next behind det k h refl).1
  ends_once {y} (explicit h) (implicit nx miss) = absurd (no_semicolon y h nx miss)
  ends_once {y} (implicit nx miss) (explicit h) = absurd (no_semicolon y h nx miss)
  ends_once (implicit nx miss) (implicit mx miss') = refl
