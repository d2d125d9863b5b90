use Rattle.std.proofs.Common.{◌≡◌, ◌+◌, ◌-◌, ◌*◌, option_map}
use Rattle.tree.specs.Tree.{node_total, parts_of, part_count}
use Rattle.tree.specs.Node.{node_tree}
use Rattle.tree.proofs.PartWalk.{optional_total}
use Rattle.early_errors.specs.Walks.{range_vars}
use Rattle.early_errors.proofs.vars.+vars.Given as goal

abbrev pub decreases-has_none : goal.decreases-has_none
decreases-has_none l = 3 * node_total (node_tree l.node) + 1

abbrev pub decreases-part_has_none : goal.decreases-part_has_none
decreases-part_has_none l = 3 * optional_total (option_map node_tree l.part) + 2

abbrev pub decreases-parts_have_none : goal.decreases-parts_have_none
decreases-parts_have_none l = 3 * node_total (node_tree l.node)

-- the parts so far have none
abbrev pub invariant-parts_have_none-loop-index : goal.invariant-parts_have_none-loop-index
invariant-parts_have_none-loop-index l =
    let ps = parts_of (node_tree l.node) in range_vars ps l.from (part_count ps - l.from) ≡ range_vars ps l.index (part_count ps - l.index)
