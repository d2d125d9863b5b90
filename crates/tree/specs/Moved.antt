-- Nodes that move up by one.
use Rattle.std.specs.Prelude.{◌+◌, Option, Some, None}
use Rattle.tree.specs.declared.flat_node.NodeNumber.{NodeNumber}
use Rattle.tree.specs.Labels.{Label}
use Rattle.tree.specs.Tree.{Tree, node, none}

abbrev pub moved_up : Option NodeNumber → Option NodeNumber
moved_up None = None
moved_up (Some k) = Some (record { number = k.number + 1 })

-- the node with this label and no parts
abbrev pub labelled : Label → Tree
labelled l = node l.kind l.text l.flags l.start l.stop none
