use Rattle.std.proofs.Common.{◌≡◌, ◌+◌, ◌*◌, ◌++◌}
use Rattle.tree.specs.Node.{node_tree}
use Rattle.tree.specs.Tree.{node_total, parts_of, parts_drop}
use Rattle.rule_words.specs.Appends.{Grows}
use Rattle.node_rules.specs.Due.{of_due}
use Rattle.node_rules.specs.Over.{over_parts}
use Rattle.node_rules.proofs.walk.+walking.Given as goal

abbrev pub decreases-push_nodes : goal.decreases-push_nodes
decreases-push_nodes l = 2 * node_total (node_tree l.node) + 1

abbrev pub decreases-push_below : goal.decreases-push_below
decreases-push_below l = 2 * node_total (node_tree l.node)

abbrev pub invariant-push_below-loop-place : goal.invariant-push_below-loop-place
invariant-push_below-loop-place l =
    let f = of_due l.walk.options l.walk.source.now l.walk.due.now in
    let ps = parts_of (node_tree l.node) in
    record {
      found : l.out.items ++ over_parts f l.around l.place (parts_drop l.place ps) ≡ l.fn.out.items ++ over_parts f l.around 0 ps;
      kept : Grows l.fn.out.items l.out.items;
    }
