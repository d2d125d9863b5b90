use Rattle.std.proofs.Common.{◌≡◌, ℕ, List, [], take}
use Rattle.name_tables.specs.Sets.{contains}
use Rattle.early_errors.specs.Names.{has_name}
use Rattle.early_errors.specs.Walk.{after, all_named}
use Rattle.early_errors.proofs.NameLoops.{behind, doubles}
use Rattle.early_errors.proofs.conflicts.repeated_after.Given as goal

abbrev pub invariant-loop-named : goal.invariant-loop-named
invariant-loop-named l = record {
  so_far : l.found ≡ after l.fn.found (doubles l.error (all_named (take l.named-index l.names)));
  seen : (w : List ℕ) → contains l.seen w ≡ has_name w (behind [] (all_named (take l.named-index l.names)));
}
