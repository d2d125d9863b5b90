use Rattle.std.proofs.Common.{rules}
use Rattle.cost_table.proofs.table.CostTable.set_total.Goals as goal

pub returns-clause-total : goal.returns-clause-total
returns-clause-total c = search rules
