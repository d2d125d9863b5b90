use Rattle.std.proofs.Common.{rules}
use Rattle.cost_table.proofs.table.CostTable.row_count.Goals as goal

pub returns : goal.returns
returns c = search rules
