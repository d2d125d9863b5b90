-- What turns reports off in short lists of suppressions.
use Rattle.std.proofs.Common.{◌≡◌, ℕ, Bool, true, false, List, [], ◌∷◌, Option, Some, None, refl}
use Rattle.std.specs.Prelude.{codes}
use Rattle.suppressions.specs.declared.directive.Reach.{Reach}
use Rattle.suppressions.specs.declared.directive.Reach.TheVariants.{Line, Region}
use Rattle.suppressions.specs.Deciding.{decided, index_if_off}
use Rattle.suppressions.specs.Left.{unused_from, unused_report}
use Rattle.suppressions.specs.Suppressions.{Suppression}

abbrev at : ℕ → Bool → Option (List ℕ) → Suppression
at from off rule = record { start = from; stop = from; from = from; turns_off = off; rule = rule }

abbrev off : Reach → List ℕ → ℕ → List Suppression → Option ℕ
off reach rule key ss = index_if_off reach key (decided rule key ss)

abbrev pairs : List Suppression
pairs = at 10 true None ∷ at 20 false (Some (codes "no-var")) ∷ at 30 true (Some (codes "yoda")) ∷ at 40 false None ∷ []

before : off Region (codes "no-var") 9 pairs ≡ None
before = refl

right-there : off Region (codes "no-var") 10 pairs ≡ Some 0
right-there = refl

on-again : off Region (codes "no-var") 20 pairs ≡ None
on-again = refl

others-still-off : off Region (codes "eqeqeq") 25 pairs ≡ Some 0
others-still-off = refl

the-last : off Region (codes "yoda") 35 pairs ≡ Some 2
the-last = refl

all-on-again : off Region (codes "yoda") 40 pairs ≡ None
all-on-again = refl

in-its-line : off Line (codes "yoda") 10 pairs ≡ Some 0
in-its-line = refl

in-the-next : off Line (codes "yoda") 11 pairs ≡ None
in-the-next = refl

unused : unused_from 0 (Some 0 ∷ None ∷ []) pairs ≡ unused_report (at 30 true (Some (codes "yoda"))) ∷ []
unused = refl
