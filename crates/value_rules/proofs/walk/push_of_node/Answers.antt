use Rattle.tree.specs.Node.{node_tree}
use Rattle.value_rules.specs.Found.{of_node}
use Rattle.value_rules.proofs.Passes.{each-turn, grown}
use Rattle.value_rules.proofs.walk.push_of_node.Goals as goal

pub loop-rule-preserved : goal.loop-rule-preserved
loop-rule-preserved c = record {
  found = each-turn (λ rule. of_node rule (node_tree c.args.node)) c.args.rules.now c.loop-rule.rule-index c.loop-rule.out.items _ c.loop-rule.invariant.found _ c.push_by_rule.new.out.items c.loop-rule-test.true c.in_ok-push_by_rule.ensures.found;
  kept = grown c.args.out.now.items c.loop-rule.out.items c.push_by_rule.new.out.items c.loop-rule.invariant.kept c.in_ok-push_by_rule.ensures.kept;
}
