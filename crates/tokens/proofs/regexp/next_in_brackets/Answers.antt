use Rattle.std.proofs.Common.{rules}
use Rattle.tokens.proofs.regexp.next_in_brackets.Goals as goal

pub returns-in-93 : goal.returns-in-93
returns-in-93 c = search rules
