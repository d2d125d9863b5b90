use Rattle.std.proofs.Common.{rules}
use Rattle.commands.proofs.refusal.status.Goals as goal

pub returns-in-BadTable : goal.returns-in-BadTable
returns-in-BadTable c = search rules
