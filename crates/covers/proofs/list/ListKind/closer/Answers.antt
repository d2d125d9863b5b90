use Rattle.std.proofs.Common.{rules}
use Rattle.covers.proofs.list.ListKind.closer.Goals as goal

pub returns-in-Properties : goal.returns-in-Properties
returns-in-Properties c = search rules
