use Rattle.std.proofs.Common.{◌≡◌, ℕ, List, take}
use Rattle.name_tables.specs.Sets.{contains}
use Rattle.early_errors.specs.Names.{has_name}
use Rattle.early_errors.specs.Walk.{all_named}
use Rattle.early_errors.proofs.conflicts.shared_by.Given as goal

abbrev pub invariant-loop-named : goal.invariant-loop-named
invariant-loop-named l = (w : List ℕ) → contains l.there w ≡ has_name w (all_named (take l.named-index l.others))
