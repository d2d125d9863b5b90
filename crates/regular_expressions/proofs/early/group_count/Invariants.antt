use Rattle.std.proofs.Common.{◌-◌, length}
use Rattle.name_tables.specs.Sets.{contains}
use Rattle.regular_expressions.proofs.EarlySteps.{InGroups}
use Rattle.regular_expressions.proofs.early.group_count.Given as goal

abbrev pub invariant-loop-first : goal.invariant-loop-first
invariant-loop-first l = InGroups l.is_unicode l.text l.at l.count (contains l.fn.names) (contains l.names)

abbrev pub decreases-loop-first : goal.decreases-loop-first
decreases-loop-first l = length l.initial.text - l.at
