use Rattle.std.proofs.Common.{refl, sym, ◌∙◌}
use Rattle.tree.specs.Node.{node_tree}
use Rattle.flow_rules.specs.Rows.{of_node, of_rules}
use Rattle.flow_rules.proofs.PlainNodes.{silent-said}
use Rattle.flow_rules.proofs.WalkLemmas.{append-turn, grows-on}
use Rattle.flow_rules.proofs.walk.push_each.Goals as goal

pub returns-then-is_silent-clause-found : goal.returns-then-is_silent-clause-found
returns-then-is_silent-clause-found c =
    silent-said c.args.walk.source.now c.args.walk.rules.now c.args.around c.args.flow (node_tree c.args.node) c.args.out.now.items (sym c.is_silent.ensures ∙ c.if-is_silent.true)

pub loop-rule-preserved : goal.loop-rule-preserved
loop-rule-preserved c = record {
  found = append-turn (λ rs. of_rules c.args.walk.source.now rs c.args.around c.args.flow (node_tree c.args.node)) (λ r. of_node c.args.walk.source.now r c.args.around c.args.flow (node_tree c.args.node)) (λ x xs. refl) c.args.walk.rules.now c.loop-rule.rule-index _ c.loop-rule.out.items c.push_one.new.out.items _ c.loop-rule-test.true
      c.in_ok-push_one.ensures.found c.loop-rule.invariant.found;
  kept = grows-on c.args.out.now.items c.loop-rule.out.items c.push_one.new.out.items c.loop-rule.invariant.kept c.in_ok-push_one.ensures.kept;
}
