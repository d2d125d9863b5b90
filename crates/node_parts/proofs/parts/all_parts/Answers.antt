use Rattle.std.proofs.Common.{ap, arith}
use Rattle.tree.specs.Node.{node_tree}
use Rattle.tree.specs.Tree.{parts_total}
use Rattle.node_parts.proofs.SmallerFields.{parts_smaller}
use Rattle.node_parts.proofs.parts.all_parts.Goals as goal

pub returns : goal.returns
returns c = omega (arith, parts_smaller (node_tree c.args.node), ap parts_total c.parts.ensures)
