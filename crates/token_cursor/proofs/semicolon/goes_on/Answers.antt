use Rattle.std.proofs.Common.{rules}
use Rattle.token_cursor.proofs.semicolon.goes_on.Goals as goal

pub returns-then-is_punctuator-2 : goal.returns-then-is_punctuator-2
returns-then-is_punctuator-2 c = search rules

pub returns-else-is_punctuator-2 : goal.returns-else-is_punctuator-2
returns-else-is_punctuator-2 c = search rules
