use Rattle.std.proofs.Common.{◌≡◌, take}
use Rattle.early_errors.specs.declared.EarlyError.TheVariants.{UndefinedLabel}
use Rattle.early_errors.specs.Owns.{misses}
use Rattle.early_errors.specs.Walk.{after, all_named, look}
use Rattle.early_errors.proofs.NameLoops.{passing}
use Rattle.early_errors.proofs.labels.undefined.Given as goal

abbrev pub invariant-loop-named : goal.invariant-loop-named
invariant-loop-named l = l.found ≡ after l.fn.found (passing (misses l.loops (look l.labels)) UndefinedLabel (all_named (take l.named-index l.names)))
