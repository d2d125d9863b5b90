use Rattle.std.proofs.Common.{◌≡◌, drop}
use Rattle.early_errors.specs.Names.{has_name}
use Rattle.early_errors.specs.Walk.{all_named}
use Rattle.early_errors.proofs.conflicts.is_among.Given as goal

abbrev pub invariant-loop-other : goal.invariant-loop-other
invariant-loop-other l = has_name l.name (all_named (drop l.other-index l.names)) ≡ has_name l.name (all_named l.names)
