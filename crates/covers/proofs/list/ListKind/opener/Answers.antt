use Rattle.std.proofs.Common.{rules}
use Rattle.covers.proofs.list.ListKind.opener.Goals as goal

pub returns-in-Elements : goal.returns-in-Elements
returns-in-Elements c = search rules
