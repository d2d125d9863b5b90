use Rattle.std.proofs.Common.{◌≡◌, ◌+◌, ◌*◌, ◌++◌}
use Rattle.tree.specs.Node.{node_tree}
use Rattle.tree.specs.Tree.{node_total, parts_of}
use Rattle.tree.proofs.PartWalk.{parts_drop}
use Rattle.early_errors.specs.Names.{parts_vars}
use Rattle.early_errors.specs.Walk.{all_named}
use Rattle.early_errors.proofs.vars.+pushing.Given as goal

abbrev pub decreases-push_vars : goal.decreases-push_vars
decreases-push_vars l = 2 * node_total (node_tree l.node) + 1

abbrev pub decreases-push_parts_vars : goal.decreases-push_parts_vars
decreases-push_parts_vars l = 2 * node_total (node_tree l.node)

abbrev pub invariant-push_parts_vars-loop-index : goal.invariant-push_parts_vars-loop-index
invariant-push_parts_vars-loop-index l =
    all_named l.names.items ++ parts_vars (parts_drop l.index (parts_of (node_tree l.node))) ≡ all_named l.fn.names.items ++ parts_vars (parts_of (node_tree l.node))
