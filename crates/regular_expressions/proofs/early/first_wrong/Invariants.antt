use Rattle.std.proofs.Common.{◌-◌, length}
use Rattle.name_tables.specs.Sets.{contains}
use Rattle.regular_expressions.proofs.EarlySteps.{InWrong}
use Rattle.regular_expressions.proofs.early.first_wrong.Given as goal

abbrev pub invariant-loop-first : goal.invariant-loop-first
invariant-loop-first l = InWrong l.is_unicode l.text l.at l.groups (contains l.names) (contains l.before)

abbrev pub decreases-loop-first : goal.decreases-loop-first
decreases-loop-first l = length l.initial.text - l.at
