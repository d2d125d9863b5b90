-- Arrays, objects and their patterns at one place end alike, if one of them is no higher.
use Rattle.std.proofs.Common.{◌≡◌, ℕ, suc, ◌≤◌, Bool, List, refl, sym, ap, arith, ◌⊎◌, inl, inr}
use Rattle.std.specs.Prelude.{codes}
use Rattle.std.proofs.lemmas.Bool.{false≢true}
use Rattle.tokens.specs.declared.token.TokenClass.TheVariants.{Punctuator}
use Rattle.tree.specs.declared.kind.Kind.{Kind}
use Rattle.tree.specs.declared.kind.Pair.{Pair}
use Rattle.tree.specs.Tree.{Tree, Parts, height, parts_height}
use Rattle.language.specs.declared.Start.{Start}
use Rattle.language.specs.Vocabulary.{is}
use Rattle.language.specs.Pieces.{pattern, PieceOf, Role}
use Rattle.language.specs.Token.{Token}
use Rattle.language.specs.ExpressionStart.{ExpressionStart}
use Rattle.language.specs.Covers.{Reading, as_expression, as_pattern}
use Rattle.language.specs.Promises.{IsDetermined}
use Rattle.language.specs.Following.{IsAlike}
use Rattle.language.specs.Grammar.{ways}
use Rattle.language.specs.Derivation.{Reads, Spells, Runs}
use Rattle.language.proofs.list_loops.FirstPieces.{run_token}
use Rattle.language.proofs.covers.PatternsByToken.{PatternCore, as_array, as_object, pattern_core}
use Rattle.language.proofs.covers.CoverSpreads.{two_texts}
use Rattle.language.proofs.climbing.Targets.{Bracketing, by_bracket, by_brace}
use Rattle.unambiguity_laws.proofs.Unique.{Unique}
use Rattle.unambiguity_laws.proofs.list_items.Crossings.{array_pieces_as, object_pieces_as, array_ends, object_ends}

module _ (S : Type 0) (Next : S → Token → S → Type 0) (behind : S → Token) where
  -- an array or an object, or the pattern of one
  pub data Bracketed (x : Reading) (o : ℕ) (ps : Parts) (s e : S) (P : List Pair) : Type 0 where
    an_array : Runs ways S Next behind o (array_pieces_as x ps) ps s e P → Bracketed x o ps s e P
    an_object : Runs ways S Next behind o (object_pieces_as x ps) ps s e P → Bracketed x o ps s e P

  pub literal_bracketed : {f : Start} {a : ExpressionStart} {K L : Kind} {pieces : Parts → List (PieceOf Role)} {o : ℕ} {ps : Parts} {s e : S} {P : List Pair} → Bracketing f a K L pieces → Runs ways S Next behind o (pieces ps) ps s e P → Bracketed as_expression o ps s e P
  literal_bracketed by_bracket d = an_array d
  literal_bracketed (by_brace b) d = an_object d

module _ (S : Type 0) (Next : S → Token → S → Type 0) (behind : S → Token) (det : IsDetermined S Next behind) where
  -- `[` and `{` aren't read at one place
  two_marks : {s e e' : S} {t t' : Token} → Reads S Next behind Punctuator (codes "[") s t e → Reads S Next behind Punctuator (codes "{") s t' e' → ⊥
  two_marks h k = let clash = two_texts S Next behind det refl refl h k in false≢true (sym (ap (λ w. is w "[") clash))

  -- what spells a pattern
  pub record PatternParts (b : Bool) (o : ℕ) (n : Tree) (s e : S) (P : List Pair) : Type 0 where
    pub parts : Parts
    pub high : height n ≡ suc (parts_height parts)
    pub bracketed : Bracketed S Next behind (as_pattern b) o parts s e P

  pub pattern_parts : {o : ℕ} {b : Bool} {f : Start} {n : Tree} {s e : S} {P : List Pair} → Spells ways S Next behind o (pattern b f) n s e P → PatternParts b o n s e P
  pattern_parts {o} {b} {f} {n} {s} {e} {P} d = of (pattern_core S Next behind det d)
    where
      of : PatternCore S Next behind det o b f n s e P → PatternParts b o n s e P
      of (as_array {ps = ps} tree pl d) = record { parts = ps; high = ap height tree; bracketed = an_array d }
      of (as_object {ps = ps} tree begins pl d) = record { parts = ps; high = ap height tree; bracketed = an_object d }

module _ (S : Type 0) (Next : S → Token → S → Type 0) (behind : S → Token) (det : IsDetermined S Next behind) (alike : IsAlike S Next behind) {h : ℕ} (u : Unique S Next behind det h) where
  pub brackets_end : (x z : Reading) {o o' : ℕ} {ps qs : Parts} {s e k : S} {P Q : List Pair} → (parts_height ps ≤ h) ⊎ (parts_height qs ≤ h) → Bracketed S Next behind x o ps s e P → Bracketed S Next behind z o' qs s k Q → k ≡ e
  brackets_end x z (inl low) (an_array d) (an_array d') = array_ends S Next behind det alike u x z low d d'
  brackets_end x z (inl low) (an_object d) (an_object d') = object_ends S Next behind det alike u x z low d d'
  brackets_end x z (inr low) (an_array d) (an_array d') = sym (array_ends S Next behind det alike u z x low d' d)
  brackets_end x z (inr low) (an_object d) (an_object d') = sym (object_ends S Next behind det alike u z x low d' d)
  brackets_end x z low (an_array d) (an_object d') = absurd (two_marks S Next behind det (run_token S Next behind d).reads (run_token S Next behind d').reads)
  brackets_end x z low (an_object d) (an_array d') = absurd (two_marks S Next behind det (run_token S Next behind d').reads (run_token S Next behind d).reads)

  -- two patterns
  pub patterns_end : {b c : Bool} {f g : Start} {o o' : ℕ} {n m : Tree} {s e k : S} {P Q : List Pair} → (height n ≤ suc h) ⊎ (height m ≤ suc h) → Spells ways S Next behind o (pattern b f) n s e P → Spells ways S Next behind o' (pattern c g) m s k Q → k ≡ e
  patterns_end {b} {c} {n = n} {m = m} low d d' =
      let p = pattern_parts S Next behind det d in
      let q = pattern_parts S Next behind det d' in
      brackets_end (as_pattern b) (as_pattern c) (either p.high q.high low) p.bracketed q.bracketed
    where
      either : {x y : ℕ} → height n ≡ suc x → height m ≡ suc y → (height n ≤ suc h) ⊎ (height m ≤ suc h) → (x ≤ h) ⊎ (y ≤ h)
      either v w (inl l) = inl (omega arith)
      either v w (inr l) = inr (omega arith)
