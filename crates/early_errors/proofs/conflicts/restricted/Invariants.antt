use Rattle.std.proofs.Common.{◌≡◌, filter, take}
use Rattle.early_errors.specs.declared.EarlyError.TheVariants.{EvalOrArguments}
use Rattle.early_errors.specs.Early.{each}
use Rattle.early_errors.specs.Names.{places}
use Rattle.early_errors.specs.Strict.{is_restricted}
use Rattle.early_errors.specs.Walk.{after, all_named}
use Rattle.early_errors.proofs.conflicts.restricted.Given as goal

abbrev pub invariant-loop-named : goal.invariant-loop-named
invariant-loop-named l = l.found ≡ after l.fn.found (each EvalOrArguments (places (filter is_restricted (all_named (take l.named-index l.names)))))
