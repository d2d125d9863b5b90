use Rattle.std.proofs.Common.{rules}
use Rattle.token_cursor.proofs.cursor.Cursor.last_token.Goals as goal

pub returns : goal.returns
returns c = search rules
