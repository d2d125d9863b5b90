use Rattle.std.proofs.Common.{◌≡◌, ◌+◌, ◌*◌, ◌++◌, option_map}
use Rattle.tree.specs.Tree.{node_total, parts_of, parts_drop}
use Rattle.tree.specs.Node.{node_tree}
use Rattle.tree.proofs.PartWalk.{optional_total}
use Rattle.name_tables.specs.PatternParts.{all_bound, bound_as}
use Rattle.name_tables.specs.BoundNames.{each_part, bound_names}
use Rattle.name_tables.proofs.bound.+pattern.Given as goal

abbrev pub decreases-push_all_names : goal.decreases-push_all_names
decreases-push_all_names g l = 3 * node_total (node_tree l.node)

abbrev pub decreases-push_names : goal.decreases-push_names
decreases-push_names g l = 3 * node_total (node_tree l.node) + 1

abbrev pub decreases-push_part_names : goal.decreases-push_part_names
decreases-push_part_names g l = 3 * optional_total (option_map node_tree l.part) + 2

abbrev pub invariant-push_all_names-loop-index : goal.invariant-push_all_names-loop-index
invariant-push_all_names-loop-index g l =
    let f = bound_names (bound_as l.how) in
    all_bound l.names.items ++ each_part f (parts_drop l.index (parts_of (node_tree l.node))) ≡ all_bound l.fn.names.items ++ each_part f (parts_of (node_tree l.node))
