use Rattle.std.proofs.Common.{rules}
use Rattle.cost_table.proofs.costs.Costs.cells.Goals as goal

pub returns : goal.returns
returns c = search rules
