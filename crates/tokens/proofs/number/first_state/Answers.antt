use Rattle.std.proofs.Common.{rules}
use Rattle.tokens.proofs.number.first_state.Goals as goal

pub returns-in-0 : goal.returns-in-0
returns-in-0 c = search rules
