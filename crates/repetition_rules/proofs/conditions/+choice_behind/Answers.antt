use Rattle.std.proofs.Common.{[], ◌∷◌, ◌++◌, map, string_bytes, sym, ap, ◌∙◌}
use Rattle.tree.specs.Node.{node_tree}
use Rattle.repetition_rules.proofs.Operands.{asked-one, asked-two, both-appended, if_ok}
use Rattle.repetition_rules.proofs.conditions.+choice_behind.Goals as goal

pub returns-in_ok-push_labels-in-Some : goal.returns-in_ok-push_labels-in-Some
returns-in_ok-push_labels-in-Some t c =
    let both = c.in-Some.both in
    if_ok c.choice_behind.result
    (λ choice h. both-appended _ _ _ _ _ _ c.in_ok-push_labels-in-Some.ensures h (asked-two (node_tree c.args.node) (node_tree both.left) (node_tree both.right) c.in-Some.ensures.both))
    c.choice_behind.ensures

pub returns-in_ok-last-in-None : goal.returns-in_ok-last-in-None
returns-in_ok-last-in-None t c =
    ap (λ l. map string_bytes c.args.others.items ++ l) (ap (λ w. w ∷ []) c.in_ok-last-in-None.ensures ∙ sym (asked-one (node_tree c.args.node) c.in-None.ensures.both))
