use Rattle.std.proofs.Common.{[], ◌∷◌, ◌++◌, map, string_bytes, sym, ap, ◌∙◌}
use Rattle.std.proofs.lemmas.List.{map-append}
use Rattle.rule_words.proofs.Results.{on_ok}
use Rattle.tree.specs.Node.{node_tree}
use Rattle.repetition_rules.proofs.Operands.{asked-one, asked-two, both-appended}
use Rattle.repetition_rules.proofs.conditions.+push_labels.Goals as goal

pub returns-in_ok-push_labels-in-Some : goal.returns-in_ok-push_labels-in-Some
returns-in_ok-push_labels-in-Some t c =
    let both = c.in-Some.both in
    on_ok c.push_labels-in-Some.result
    (λ h. both-appended _ _ _ _ _ _ c.in_ok-push_labels-in-Some.ensures h (asked-two (node_tree c.args.node) (node_tree both.left) (node_tree both.right) c.in-Some.ensures.both))
    c.push_labels-in-Some.ensures

pub returns-in_ok-push-in-None : goal.returns-in_ok-push-in-None
returns-in_ok-push-in-None t c =
    let old = c.args.out.now.items in
    ap (map string_bytes) c.in_ok-push-in-None.ensures.items ∙ map-append string_bytes old (c.in_ok-label-in-None.label ∷ [])
    ∙ ap (λ w. map string_bytes old ++ w ∷ []) c.in_ok-label-in-None.ensures ∙ ap (λ l. map string_bytes old ++ l) (sym (asked-one (node_tree c.args.node) c.in-None.ensures.both))
