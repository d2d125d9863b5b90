use Rattle.std.proofs.Common.{rules}
use Rattle.token_cursor.proofs.semicolon.edge_as_written.Goals as goal

pub returns-in_default-2 : goal.returns-in_default-2
returns-in_default-2 c = search rules
