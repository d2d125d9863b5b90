use Rattle.std.proofs.Common.{rules}
use Rattle.typed_nodes.proofs.expression.Expression.of.Goals as goal

pub returns-then-is_whole : goal.returns-then-is_whole
returns-then-is_whole c = search rules
