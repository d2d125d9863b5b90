use Rattle.std.proofs.Common.{◌≡◌, take}
use Rattle.name_tables.specs.Sets.{contains}
use Rattle.early_errors.specs.Walk.{after, all_named}
use Rattle.early_errors.proofs.NameLoops.{passing}
use Rattle.early_errors.proofs.conflicts.held.Given as goal

abbrev pub invariant-loop-named : goal.invariant-loop-named
invariant-loop-named l = l.found ≡ after l.fn.found (passing (λ x. contains l.there x.0) l.error (all_named (take l.named-index l.names)))
