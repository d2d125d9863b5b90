use Rattle.std.proofs.Common.{◌≡◌, ℕ, List, drop}
use Rattle.std.specs.Prelude.{◌||◌}
use Rattle.name_tables.specs.Sets.{contains}
use Rattle.native_prototypes.specs.Sets.{is_meant}
use Rattle.native_prototypes.proofs.bound.bound_names.Given as goal

abbrev pub invariant-loop-reference : goal.invariant-loop-reference
invariant-loop-reference l = (w : List ℕ) → (contains l.names w || is_meant (drop l.reference-index l.references) w) ≡ is_meant l.references w
