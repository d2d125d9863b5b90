use Rattle.std.proofs.Common.{◌≡◌}
use Rattle.tree.specs.Node.{node_tree}
use Rattle.tree.specs.Tree.{node_total, parts_of}
use Rattle.tree.proofs.PartWalk.{parts_drop}
use Rattle.node_rules.specs.Searches.{is_sought, some_in, some_below}
use Rattle.node_rules.proofs.search.+some_in.Given as goal

abbrev pub decreases-some_in : goal.decreases-some_in
decreases-some_in l = node_total (node_tree l.node)

abbrev pub invariant-loop-index : goal.invariant-loop-index
invariant-loop-index l = some_below (is_sought l.search.sought l.search.label.now) (parts_drop l.index (parts_of (node_tree l.node))) ≡ some_in (is_sought l.search.sought l.search.label.now) (node_tree l.node)
