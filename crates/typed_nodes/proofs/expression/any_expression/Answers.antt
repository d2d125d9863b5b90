use Rattle.std.proofs.Common.{rules}
use Rattle.typed_nodes.proofs.expression.any_expression.Goals as goal

pub returns-in-Literal : goal.returns-in-Literal
returns-in-Literal c = search rules
