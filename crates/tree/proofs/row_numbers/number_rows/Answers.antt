use Rattle.std.proofs.Common.{◌≡◌, ◌+◌, ◌-◌, length, subst, arith}
use Rattle.tree.specs.declared.node_use.NodeUse.TheVariants.{NotEvaluated}
use Rattle.tree.specs.Numbering.{NumbersNode}
use Rattle.tree.proofs.FlatTrees.{Pool}
use Rattle.tree.proofs.StandingNodes.{same_links}
use Rattle.tree.proofs.NumberedNodes.{all_numbered}
use Rattle.tree.proofs.row_numbers.number_rows.Goals as goal

pub new-requires : goal.new-requires
new-requires c = same_links c.args.tree.parts.items 0 c.args.tree.nodes.items c.number_node.new.nodes.items c.number_node.ensures.shape.places c.args.tree.linked

pub returns : goal.returns
returns c =
    let f = c.args.tree in
    let new = c.number_node.new.nodes.items in
    let last : (c.len-last.result - 1) + 1 ≡ length f.nodes.items = omega (arith, c.len-last.ensures, f.nodes.ok.0, c.requires) in
    all_numbered f c.new.result new (c.len-last.result - 1) c.number_node.result c.new.ensures.nodes c.new.ensures.parts c.number_node.ensures.shape last
    (subst (λ (pool : Pool). NumbersNode pool f.nodes.items new NotEvaluated (c.len-last.result - 1) 1 c.number_node.result) c.deref.ensures.value c.number_node.ensures.numbered)
