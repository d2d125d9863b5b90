use Rattle.std.proofs.Common.{◌≡◌, ◌+◌, ◌*◌, ◌++◌, option_map}
use Rattle.tree.specs.Node.{node_tree}
use Rattle.tree.specs.Tree.{node_total, parts_of, parts_drop}
use Rattle.tree.proofs.PartWalk.{optional_total}
use Rattle.rule_words.specs.Appends.{Grows}
use Rattle.flow_rules.specs.declared.flow.Place.TheVariants.{First}
use Rattle.flow_rules.specs.Arounds.{inside}
use Rattle.flow_rules.specs.Flows.{no_sums}
use Rattle.flow_rules.specs.Over.{over_parts}
use Rattle.flow_rules.specs.Rows.{of_rules}
use Rattle.flow_rules.proofs.SumLemmas.{folded}
use Rattle.flow_rules.proofs.walk.+walking.Given as goal

abbrev pub decreases-push_nodes : goal.decreases-push_nodes
decreases-push_nodes l = 2 * node_total (node_tree l.node)

abbrev pub decreases-push_part : goal.decreases-push_part
decreases-push_part l = 2 * optional_total (option_map node_tree l.part) + 1

abbrev pub invariant-push_nodes-loop-index : goal.invariant-push_nodes-loop-index
invariant-push_nodes-loop-index l =
    let t = node_tree l.node in
    let f = of_rules l.walk.source.now l.walk.rules.now in
    record {
      found : l.out.items ++ over_parts f l.before.around (parts_drop l.index (parts_of t)) ≡ l.fn.out.items ++ over_parts f (inside l.fn.around t) (parts_of t);
      sums : folded l.before.around.place l.before.sums (parts_drop l.index (parts_of t)) ≡ folded First no_sums (parts_of t);
      kept : Grows l.fn.out.items l.out.items;
    }
