use Rattle.std.proofs.Common.{◌≡◌, take}
use Rattle.early_errors.specs.Walk.{all_named, hits, look, sooner}
use Rattle.early_errors.proofs.conflicts.hits.Given as goal

abbrev pub invariant-loop-named : goal.invariant-loop-named
invariant-loop-named l = l.found ≡ sooner l.fn.found (hits (look l.clashes) (all_named (take l.named-index l.names)))
