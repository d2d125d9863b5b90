use Rattle.std.proofs.Common.{rules}
use Rattle.cost_table.proofs.table.CostTable.push_row.Goals as goal

pub returns-clause-rows : goal.returns-clause-rows
returns-clause-rows c = search rules
