use Rattle.std.proofs.Common.{◌∙◌, ap, arith}
use Rattle.tree.specs.Node.{node_tree}
use Rattle.tree.specs.Tree.{parts_total, parts_of, parts_drop}
use Rattle.node_parts.proofs.SmallerFields.{parts_smaller, drop_smaller}
use Rattle.node_parts.proofs.parts.parts_from.Goals as goal

pub returns : goal.returns
returns c =
    let t = node_tree c.args.node in
    omega (arith, drop_smaller (parts_of t) c.args.first, parts_smaller t, ap parts_total (c.skip.ensures ∙ ap (parts_drop c.args.first) c.parts.ensures))
