use Rattle.std.proofs.Common.{◌≡◌, take}
use Rattle.early_errors.specs.Names.{has_name}
use Rattle.early_errors.specs.Walk.{after, all_named}
use Rattle.early_errors.proofs.NameLoops.{passing}
use Rattle.early_errors.proofs.conflicts.shared_of_few.Given as goal

abbrev pub invariant-loop-named : goal.invariant-loop-named
invariant-loop-named l = l.found ≡ after l.fn.found (passing (λ x. has_name x.0 (all_named l.others)) l.error (all_named (take l.named-index l.names)))
