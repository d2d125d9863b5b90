-- A pattern at another start: where an expression statement or an arrow's body begins, no pattern begins with `{` (ECMA-262 13.5, 14.2).
use Rattle.std.proofs.Common.{◌≡◌, ℕ, Bool, List, [], ◌∷◌, sym, ap, subst}
use Rattle.std.specs.Prelude.{IsTrue}
use Rattle.tree.specs.declared.kind.Kind.TheVariants.{ObjectPattern}
use Rattle.tree.specs.declared.kind.Pair.{Pair}
use Rattle.tree.specs.Tree.{Tree, kind_of}
use Rattle.language.specs.declared.Start.{Start}
use Rattle.language.specs.Pieces.{pattern, sign}
use Rattle.language.specs.Token.{Token}
use Rattle.language.specs.Promises.{IsDetermined}
use Rattle.language.specs.Grammar.{ways, starts}
use Rattle.language.specs.Derivation.{Spells, Placed, placed}
use Rattle.language.proofs.covers.PatternsByToken.{PatternCore, as_array, as_object, pattern_core, array_spells, object_spells}

module _ (S : Type 0) (Next : S → Token → S → Type 0) (behind : S → Token) (det : IsDetermined S Next behind) where
  same_places : {b : Bool} {f g : Start} {n : Tree} {s e : S} → Placed S Next behind (pattern b f) n s e → Placed S Next behind (pattern b g) n s e
  same_places (placed nx p) = placed nx p

  -- what spells a pattern spells it where its first token may begin
  pub pattern_moves : {o : ℕ} {b : Bool} {f g : Start} {n : Tree} {s e : S} {P : List Pair} → (kind_of n ≡ ObjectPattern → IsTrue (starts g (sign "{" ∷ []))) → Spells ways S Next behind o (pattern b f) n s e P → Spells ways S Next behind o (pattern b g) n s e P
  pattern_moves {o} {b} {f} {g} {n} {s} {e} {P} begins d = of (pattern_core S Next behind det d)
    where
      of : PatternCore S Next behind det o b f n s e P → Spells ways S Next behind o (pattern b g) n s e P
      of (as_array tree pl r) = subst (λ c. Spells ways S Next behind o (pattern b g) c s e P) (sym tree) (array_spells S Next behind det (same_places pl) r)
      of (as_object tree h pl r) = subst (λ c. Spells ways S Next behind o (pattern b g) c s e P) (sym tree) (object_spells S Next behind det (begins (ap kind_of tree)) (same_places pl) r)
