use Rattle.std.proofs.Common.{rules}
use Rattle.covers.proofs.list.ListKind.reads.Goals as goal

pub returns-in-Parameters : goal.returns-in-Parameters
returns-in-Parameters c = search rules
