use Rattle.std.proofs.Common.{◌++◌, refl, ap, ◌∙◌}
use Rattle.rules.specs.NodeRules.{found_on_nodes}
use Rattle.rules.specs.Run.{all_found, found_by}
use Rattle.rules.specs.RuleViews.{seen}
use Rattle.rules.proofs.Together.{none-on-nodes, rules-begin, rules-turn, rules-end}
use Rattle.rules.proofs.run.gather.Goals as goal

pub loop-rule-init : goal.loop-rule-init
loop-rule-init g c =
    let v = seen c.args.view.now in
    rules-begin _ c.new-found.result.items (found_on_nodes c.new-together.result.items v) c.new-found.ensures.items (ap (λ rs. found_on_nodes rs v) c.new-together.ensures.items ∙ none-on-nodes v)

pub loop-rule-preserved : goal.loop-rule-preserved
loop-rule-preserved g c =
    let v = seen c.args.view.now in
    rules-turn c.args.rules.now c.loop-rule.rule-index c.rule-item.result
    (λ rs. all_found (λ b. (goal.Rule-dyn g (b.vtable, b.value)).called b.value) (λ b. (goal.Rule-dyn g (b.vtable, b.value)).finds b.value) rs v)
    (λ r. found_by (λ b. (goal.Rule-dyn g (b.vtable, b.value)).called b.value) (λ b. (goal.Rule-dyn g (b.vtable, b.value)).finds b.value) r v)
    (λ r rs. refl) _ c.loop-rule.found.items (found_on_nodes c.loop-rule.together.items v) c.run_rule.new.out.items (found_on_nodes c.run_rule.new.together.items v) c.loop-rule-test.true c.rule-item.is c.in_ok-run_rule.ensures c.loop-rule.invariant

pub returns : goal.returns
returns g c =
    let v = seen c.args.view.now in
    rules-end c.args.rules.now c.loop-rule.rule-index
    (λ rs. all_found (λ b. (goal.Rule-dyn g (b.vtable, b.value)).called b.value) (λ b. (goal.Rule-dyn g (b.vtable, b.value)).finds b.value) rs v)
    refl _ c.loop-rule.found.items (found_on_nodes c.loop-rule.together.items v) c.push_reports.new.out.items c.loop-rule-test.false
    (c.in_ok-push_reports.ensures.found ∙ ap (λ rs. c.loop-rule.found.items ++ found_on_nodes rs v) c.deref.ensures.value)
    c.loop-rule.invariant
