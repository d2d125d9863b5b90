use Rattle.std.proofs.Common.{rules}
use Rattle.productions.proofs.measured_node.MeasuredNode.leaf.Goals as goal

pub returns-then-high-eq0 : goal.returns-then-high-eq0
returns-then-high-eq0 c = search rules
