use Rattle.std.proofs.Common.{rules}
use Rattle.typed_nodes.proofs.arity.has_pair.Goals as goal

pub returns-in-ForStatement : goal.returns-in-ForStatement
returns-in-ForStatement c = search rules
