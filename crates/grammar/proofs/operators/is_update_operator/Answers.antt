use Rattle.std.proofs.Common.{rules}
use Rattle.grammar.proofs.operators.is_update_operator.Goals as goal

pub returns-in_default : goal.returns-in_default
returns-in_default c = search rules
