use Rattle.std.proofs.Common.{◌≡◌, take}
use Rattle.regular_expressions.specs.Terms.{decimal_value}
use Rattle.regular_expressions.specs.Scanned.{padded}
use Rattle.regular_expressions.proofs.count.is_ordered.Given as goal

abbrev pub invariant-loop-index : goal.invariant-loop-index
invariant-loop-index l = decimal_value 0 (take l.index (padded l.least l.width)) ≡ decimal_value 0 (take l.index (padded l.most l.width))
