use Rattle.std.proofs.Common.{◌≡◌, drop}
use Rattle.paren_planner.specs.Pending.{shown_sums}
use Rattle.paren_planner.specs.Steps.{taken_from, at_the_end}
use Rattle.paren_planner.proofs.cost_pass.cost_pass.Given as goal

abbrev pub invariant-loop-index : goal.invariant-loop-index
invariant-loop-index l = shown_sums l.pending l.table.rows.items ≡ taken_from (drop l.index l.steps) at_the_end
