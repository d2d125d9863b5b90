use Rattle.std.proofs.Common.{rules}
use Rattle.tokens.proofs.number.is_bad_end.Goals as goal

pub returns-then-is_start : goal.returns-then-is_start
returns-then-is_start c = search rules

pub returns-else-is_start : goal.returns-else-is_start
returns-else-is_start c = search rules
