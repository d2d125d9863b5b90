use Rattle.std.proofs.Common.{rules}
use Rattle.tokens.proofs.name.is_ascii_start.Goals as goal

pub returns-in-a-to-z-2 : goal.returns-in-a-to-z-2
returns-in-a-to-z-2 c = search rules
