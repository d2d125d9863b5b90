use Rattle.std.proofs.Common.{rules}
use Rattle.token_cursor.proofs.semicolon.may_omit_semicolon.Goals as goal

pub returns-then-eq : goal.returns-then-eq
returns-then-eq c = search rules

pub returns-else-token : goal.returns-else-token
returns-else-token c = search rules

pub returns-then-token : goal.returns-then-token
returns-then-token c = search rules
