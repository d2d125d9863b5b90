use Rattle.std.proofs.Common.{◌≡◌}
use Rattle.tree.specs.Node.{node_tree}
use Rattle.tree.specs.Tree.{parts_of, parts_drop}
use Rattle.early_errors.specs.Literals.{some_uncooked}
use Rattle.early_errors.proofs.literals.some_uncooked.Given as goal

abbrev pub invariant-loop-index : goal.invariant-loop-index
invariant-loop-index l = some_uncooked (parts_drop l.index (parts_of (node_tree l.node))) ≡ some_uncooked (parts_of (node_tree l.node))
