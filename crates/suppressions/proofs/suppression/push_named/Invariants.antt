use Rattle.std.proofs.Common.{◌≡◌, ◌++◌, drop}
use Rattle.suppressions.specs.Suppressions.{for_names}
use Rattle.suppressions.proofs.suppression.push_named.Given as goal

abbrev pub invariant-loop-name : goal.invariant-loop-name
invariant-loop-name l = l.out.items ++ for_names l.of (drop l.name-index l.names) ≡ l.fn.out.items ++ for_names l.of l.names
