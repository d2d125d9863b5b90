use Rattle.std.proofs.Common.{[], ◌∷◌, ◌++◌, sym, ap, ◌∙◌}
use Rattle.rule_words.proofs.Results.{on_ok}
use Rattle.tree.specs.Node.{node_tree}
use Rattle.repetition_rules.proofs.Operands.{both-appended, conditions-one, conditions-two}
use Rattle.repetition_rules.proofs.conditions.+push_conditions.Goals as goal

pub returns-in_ok-push_conditions-in-Some : goal.returns-in_ok-push_conditions-in-Some
returns-in_ok-push_conditions-in-Some t c =
    let both = c.in-Some.both in
    on_ok c.push_conditions-in-Some.result
    (λ h. both-appended _ _ _ _ _ _ c.in_ok-push_conditions-in-Some.ensures h (conditions-two (node_tree c.args.node) (node_tree both.left) (node_tree both.right) c.in-Some.ensures.both))
    c.push_conditions-in-Some.ensures

pub returns-in_ok-push-in-None : goal.returns-in_ok-push-in-None
returns-in_ok-push-in-None t c =
    let old = c.args.out.now.items in
    c.in_ok-push-in-None.ensures.items ∙ ap (λ x. old ++ x ∷ []) c.in_ok-condition-in-None.ensures ∙ ap (λ l. old ++ l) (sym (conditions-one (node_tree c.args.node) c.in-None.ensures.both))
