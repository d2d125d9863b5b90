use Rattle.std.proofs.Common.{◌≡◌}
use Rattle.tree.specs.Node.{node_tree}
use Rattle.tree.specs.Tree.{parts_of, parts_drop}
use Rattle.early_errors.specs.Functions.{is_simple}
use Rattle.early_errors.proofs.functions.is_simple.Given as goal

abbrev pub invariant-loop-index : goal.invariant-loop-index
invariant-loop-index l = is_simple (parts_drop l.index (parts_of (node_tree l.node))) ≡ is_simple (parts_drop l.from (parts_of (node_tree l.node)))
