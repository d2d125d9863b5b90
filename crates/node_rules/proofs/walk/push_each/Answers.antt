use Rattle.std.proofs.Common.{refl}
use Rattle.tree.specs.Node.{node_tree}
use Rattle.node_rules.specs.Rows.{of_node, of_rules}
use Rattle.node_rules.proofs.WalkLemmas.{append-turn, grows-on}
use Rattle.node_rules.proofs.walk.push_each.Goals as goal

pub loop-rule-preserved : goal.loop-rule-preserved
loop-rule-preserved c = record {
  found = append-turn (λ rs. of_rules c.args.walk.now.options c.args.walk.now.source.now rs c.args.around (node_tree c.args.node)) (λ r. of_node c.args.walk.now.options c.args.walk.now.source.now r c.args.around (node_tree c.args.node)) (λ x xs. refl) c.args.rules.now c.loop-rule.rule-index _ c.loop-rule.out.items c.push_one.new.out.items _ c.loop-rule-test.true
      c.in_ok-push_one.ensures.found c.loop-rule.invariant.found;
  kept = grows-on c.args.out.now.items c.loop-rule.out.items c.push_one.new.out.items c.loop-rule.invariant.kept c.in_ok-push_one.ensures.kept;
}
