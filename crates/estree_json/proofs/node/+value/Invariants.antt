use Rattle.std.proofs.Common.{◌≡◌, ◌+◌, ◌*◌, true, ◌++◌, drop, map}
use Rattle.serde_json.specs.View.{view, members_view}
use Rattle.tree.specs.Tree.{parts_of, node_total}
use Rattle.tree.specs.Node.{node_tree}
use Rattle.estree_json.specs.Json.{parts_json}
use Rattle.estree_json.specs.Table.{put_lines, subject_of}
use Rattle.estree_json.proofs.Lists.{between, in_turns}
use Rattle.estree_json.proofs.node.+value.Given as goal

abbrev pub decreases-node_value : goal.decreases-node_value
decreases-node_value l = 5 * node_total (node_tree l.node) + 4

abbrev pub decreases-put_member : goal.decreases-put_member
decreases-put_member l = 5 * node_total (node_tree l.node) + 3

abbrev pub decreases-member_value : goal.decreases-member_value
decreases-member_value l = 5 * node_total (node_tree l.node) + 2

abbrev pub decreases-list_value : goal.decreases-list_value
decreases-list_value l = 5 * node_total (node_tree l.node) + 1

abbrev pub decreases-every_other_value : goal.decreases-every_other_value
decreases-every_other_value l = 5 * node_total (node_tree l.node) + 1

abbrev pub decreases-part_value : goal.decreases-part_value
decreases-part_value l = 5 * node_total (node_tree l.node)

-- the lines that are left put into the members so far what all put into those at the start
abbrev pub invariant-node_value-loop-line : goal.invariant-node_value-loop-line
invariant-node_value-loop-line l =
    let x = subject_of l.is_last (node_tree l.node) in
    put_lines x (drop l.line-index l.line-items) (members_view l.members.entries) ≡ put_lines x l.line-items (members_view l.initial.members.entries)

abbrev pub invariant-list_value-loop-index : goal.invariant-list_value-loop-index
invariant-list_value-loop-index l =
    let vs = parts_json (parts_of (node_tree l.node)) in
    map view l.items.items ++ between l.index l.to vs ≡ map view l.initial.items.items ++ between l.initial.index l.to vs

abbrev pub invariant-every_other_value-loop-index : goal.invariant-every_other_value-loop-index
invariant-every_other_value-loop-index l =
    let vs = parts_json (parts_of (node_tree l.node)) in
    map view l.items.items ++ in_turns l.takes (drop l.index vs) ≡ map view l.initial.items.items ++ in_turns true (drop l.initial.index vs)
