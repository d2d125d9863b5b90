use Rattle.std.proofs.Common.{◌∙◌, ap, nat_lt}
use Rattle.tree.specs.Node.{node_tree}
use Rattle.tree.specs.Tree.{parts_of}
use Rattle.printer.proofs.Ends.{filled}
use Rattle.printer.proofs.shared_fragments.is_filled.Goals as goal

pub returns : goal.returns
returns c = ap (nat_lt c.args.from) c.part_count.ensures ∙ filled (parts_of (node_tree c.args.node)) c.args.from
