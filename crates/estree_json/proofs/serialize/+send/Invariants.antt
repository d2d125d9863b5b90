use Rattle.std.proofs.Common.{◌+◌, ◌*◌, true, drop}
use Rattle.serde.specs.Event.{Log}
use Rattle.serde_json.specs.View.{items_of}
use Rattle.tree.specs.Tree.{parts_of, node_total}
use Rattle.tree.specs.Node.{node_tree}
use Rattle.estree_json.specs.Json.{parts_json}
use Rattle.estree_json.specs.Table.{by_lines, subject_of}
use Rattle.estree_json.specs.Sent.{SendsItems, SendsMembers}
use Rattle.estree_json.proofs.Lists.{between, in_turns}
use Rattle.estree_json.proofs.serialize.+send.Given as goal

abbrev pub decreases-serialize_node : goal.decreases-serialize_node
decreases-serialize_node g l = 5 * node_total (node_tree l.estree.node) + 4

abbrev pub decreases-serialize_member : goal.decreases-serialize_member
decreases-serialize_member g l = 5 * node_total (node_tree l.estree.node) + 3

abbrev pub decreases-part_member : goal.decreases-part_member
decreases-part_member g l = 5 * node_total (node_tree l.estree.node) + 2

abbrev pub decreases-list_member : goal.decreases-list_member
decreases-list_member g l = 5 * node_total (node_tree l.estree.node) + 2

abbrev pub decreases-every_other_member : goal.decreases-every_other_member
decreases-every_other_member g l = 5 * node_total (node_tree l.estree.node) + 2

abbrev pub decreases-serialize_part : goal.decreases-serialize_part
decreases-serialize_part g l = 5 * node_total (node_tree l.estree.node) + 1

-- whatever sends the members of the lines that are left has sent all of them
abbrev pub invariant-serialize_node-loop-line : goal.invariant-serialize_node-loop-line
invariant-serialize_node-loop-line g l =
    let x = subject_of l.estree.is_last (node_tree l.estree.node) in
    (end : Log) → SendsMembers (by_lines x (drop l.line-index l.line-items)) (g.S.Serializer.written l.out) end → SendsMembers (by_lines x l.line-items) (g.S.Serializer.written l.initial.out) end

-- and so of parts
abbrev pub invariant-list_member-loop-index : goal.invariant-list_member-loop-index
invariant-list_member-loop-index g l =
    let vs = parts_json (parts_of (node_tree l.estree.node)) in
    (end : Log) → SendsItems (items_of (between l.index l.fn.parts.end vs)) (g.S.Serializer.written l.out) end → SendsItems (items_of (between l.initial.index l.fn.parts.end vs)) (g.S.Serializer.written l.initial.out) end

abbrev pub invariant-every_other_member-loop-index : goal.invariant-every_other_member-loop-index
invariant-every_other_member-loop-index g l =
    let vs = parts_json (parts_of (node_tree l.estree.node)) in
    (end : Log) → SendsItems (items_of (in_turns l.takes (drop l.index vs))) (g.S.Serializer.written l.out) end → SendsItems (items_of (in_turns true (drop l.initial.index vs))) (g.S.Serializer.written l.initial.out) end
