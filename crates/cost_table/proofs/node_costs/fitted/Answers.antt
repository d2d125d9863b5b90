use Rattle.std.proofs.Common.{rules}
use Rattle.cost_table.proofs.node_costs.fitted.Goals as goal

pub returns-then-fits : goal.returns-then-fits
returns-then-fits c = search rules
