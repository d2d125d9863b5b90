use Rattle.std.proofs.Common.{◌≡◌}
use Rattle.tree.specs.Node.{node_tree}
use Rattle.tree.specs.Tree.{node_total}
use Rattle.node_rules.specs.ValueSearches.{some_value}
use Rattle.node_rules.proofs.ValueSearchLemmas.{found_from}
use Rattle.node_rules.proofs.value_search.+some_value.Given as goal

abbrev pub decreases-some_value : goal.decreases-some_value
decreases-some_value l = node_total (node_tree l.node)

abbrev pub invariant-loop-index : goal.invariant-loop-index
invariant-loop-index l = found_from l.value (node_tree l.node) l.index ≡ some_value l.value (node_tree l.node)
