use Rattle.paren_planner.proofs.ForwardSteps.{next_dropped}
use Rattle.paren_planner.proofs.wrap_pass.RowFlags.push.Goals as goal

pub returns-then-self-row_count-clause-rows : goal.returns-then-self-row_count-clause-rows
returns-then-self-row_count-clause-rows c = next_dropped c.args.table.now.rows.items c.args.self.now.next_row
