use Rattle.std.proofs.Common.{sym, ◌∙◌}
use Rattle.tree.specs.Node.{node_tree}
use Rattle.repetition_rules.specs.Rows.{of_node}
use Rattle.repetition_rules.proofs.BareNodes.{bare-found}
use Rattle.repetition_rules.proofs.Passes.{each-turn, grown}
use Rattle.repetition_rules.proofs.walk.push_of_node.Goals as goal

-- rules say nothing of the node
pub returns-then-is_bare-clause-found : goal.returns-then-is_bare-clause-found
returns-then-is_bare-clause-found c = bare-found c.args.rules.now (node_tree c.args.node) c.args.out.now.items (sym c.is_bare.ensures ∙ c.if-is_bare.true)

pub loop-rule-preserved : goal.loop-rule-preserved
loop-rule-preserved c = record {
  found = each-turn (λ rule. of_node rule (node_tree c.args.node)) c.args.rules.now c.loop-rule.rule-index c.loop-rule.out.items _ c.loop-rule.invariant.found _ c.push_by_rule.new.out.items c.loop-rule-test.true c.in_ok-push_by_rule.ensures.found;
  kept = grown c.args.out.now.items c.loop-rule.out.items c.push_by_rule.new.out.items c.loop-rule.invariant.kept c.in_ok-push_by_rule.ensures.kept;
}
