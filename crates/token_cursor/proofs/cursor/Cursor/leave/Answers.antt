use Rattle.std.proofs.Common.{rules}
use Rattle.token_cursor.proofs.cursor.Cursor.leave.Goals as goal

pub returns-clause-closed : goal.returns-clause-closed
returns-clause-closed c = search rules
