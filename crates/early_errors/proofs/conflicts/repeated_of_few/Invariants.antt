use Rattle.std.proofs.Common.{◌≡◌, take}
use Rattle.early_errors.specs.Walk.{after, all_named}
use Rattle.early_errors.proofs.NameLoops.{doubles}
use Rattle.early_errors.proofs.conflicts.repeated_of_few.Given as goal

abbrev pub invariant-loop-index : goal.invariant-loop-index
invariant-loop-index l = l.found ≡ after l.fn.found (doubles l.error (all_named (take l.index l.names)))
