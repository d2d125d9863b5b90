use Rattle.std.proofs.Common.{◌≤◌, length, ap, ◌∙◌, arith}
use Rattle.tree.specs.Node.{node_tree}
use Rattle.tree.specs.Flat.{post_order}
use Rattle.tree.proofs.Grown.{length-post_order}
use Rattle.name_tables.specs.Keys.{keyed_by}
use Rattle.name_tables.proofs.DeclarableNames.{node-turn, node-end}
use Rattle.name_tables.proofs.key.HashKey.drawn_from.Goals as goal

pub loop-number-preserved : goal.loop-number-preserved
loop-number-preserved c =
    node-turn (post_order c.args.program.now) c.loop-number.number c.loop-number.builder.hasher _ c.loop-number.invariant (node_tree c.node.result) c.add_declarable_names.new.builder.hasher
    c.node.ensures.tree c.add_declarable_names.ensures

pub returns : goal.returns
returns c =
    let t = c.args.program.now in
    let past : length (post_order t) ≤ c.loop-number.number = omega (arith, length-post_order t, c.node_count-number-end.ensures, c.loop-number-test.false) in
    c.build.ensures ∙ ap keyed_by (node-end (post_order t) c.loop-number.number c.loop-number.builder.hasher _ c.loop-number.invariant past)
