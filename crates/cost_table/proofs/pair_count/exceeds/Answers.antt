use Rattle.std.proofs.Common.{rules}
use Rattle.cost_table.proofs.pair_count.exceeds.Goals as goal

pub returns-in-Some-Some : goal.returns-in-Some-Some
returns-in-Some-Some c = search rules
