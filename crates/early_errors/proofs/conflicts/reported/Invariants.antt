use Rattle.std.proofs.Common.{◌≡◌, take}
use Rattle.early_errors.specs.Walk.{after, all_named, look, stands}
use Rattle.early_errors.proofs.NameLoops.{passing}
use Rattle.early_errors.proofs.conflicts.reported.Given as goal

abbrev pub invariant-loop-named : goal.invariant-loop-named
invariant-loop-named g l = l.found ≡ after l.fn.found (passing (stands (look l.there)) l.error (all_named (take l.named-index l.names)))
