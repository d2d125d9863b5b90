use Rattle.std.proofs.Common.{sym, ap, ◌∙◌}
use Rattle.tree.specs.Node.{node_tree}
use Rattle.early_errors.specs.declared.own.OwnErrors.TheVariants as own
use Rattle.early_errors.specs.Owns.{nameless, round}
use Rattle.early_errors.specs.Walk.{after}
use Rattle.name_tables.proofs.Results.{if_ok}
use Rattle.tree.specs.Tree.{kind_of}
use Rattle.early_errors.specs.Owns.{sort_of}
use Rattle.early_errors.proofs.OwnErrorsByKind.{later_own, small_given}
use Rattle.early_errors.proofs.own.nameless_errors.Goals as goal

pub returns-in-Member : goal.returns-in-Member
returns-in-Member c = λ r h. c.member_errors.ensures (round c.args.surroundings.around r) ∙ ap (λ o. after c.args.found (nameless o (round c.args.surroundings.around r) (node_tree c.args.node))) (sym c.in-Member.is)

pub returns-in-Template : goal.returns-in-Template
returns-in-Template c = if_ok c.template_errors.result _ _ (λ e x r h. x r ∙ ap (λ o. after c.args.found (nameless o (round c.args.surroundings.around r) (node_tree c.args.node))) (sym c.in-Template.is)) c.template_errors.ensures

pub returns-in-Delete : goal.returns-in-Delete
returns-in-Delete c = λ r h. c.delete_errors.ensures (round c.args.surroundings.around r) ∙ ap (λ o. after c.args.found (nameless o (round c.args.surroundings.around r) (node_tree c.args.node))) (sym c.in-Delete.is)

pub returns-in-SuperProperty : goal.returns-in-SuperProperty
returns-in-SuperProperty c = λ r h.
    c.super_errors.ensures ∙ sym (ap (after c.args.found) (small_given own.SuperProperty (round c.args.surroundings.around r) (node_tree c.args.node) (sym c.requires.own ∙ c.in-SuperProperty.is)))
    ∙ ap (λ o. after c.args.found (nameless o (round c.args.surroundings.around r) (node_tree c.args.node))) (sym c.in-SuperProperty.is)

pub returns-in-SuperCall : goal.returns-in-SuperCall
returns-in-SuperCall c = λ r h.
    c.super_errors-in-SuperCall.ensures ∙ sym (ap (after c.args.found) (small_given own.SuperCall (round c.args.surroundings.around r) (node_tree c.args.node) (sym c.requires.own ∙ c.in-SuperCall.is)))
    ∙ ap (λ o. after c.args.found (nameless o (round c.args.surroundings.around r) (node_tree c.args.node))) (sym c.in-SuperCall.is)

pub returns-in-Target : goal.returns-in-Target
returns-in-Target c = λ r h. c.target_errors.ensures r h.in_module ∙ ap (λ o. after c.args.found (nameless o (round c.args.surroundings.around r) (node_tree c.args.node))) (sym c.in-Target.is)

pub returns-in-ClassElements : goal.returns-in-ClassElements
returns-in-ClassElements c = if_ok c.class_errors.result _ _ (λ e x r h. x (round c.args.surroundings.around r) ∙ ap (λ o. after c.args.found (nameless o (round c.args.surroundings.around r) (node_tree c.args.node))) (sym c.in-ClassElements.is)) c.class_errors.ensures

pub returns-in-Literal : goal.returns-in-Literal
returns-in-Literal c = if_ok c.literal_errors.result _ _ (λ e x r h. x (round c.args.surroundings.around r) (sym h.of_2022) ∙ ap (λ o. after c.args.found (nameless o (round c.args.surroundings.around r) (node_tree c.args.node))) (sym c.in-Literal.is)) c.literal_errors.ensures

pub errors_of_2022-requires : goal.errors_of_2022-requires
errors_of_2022-requires c =
    let o = c.requires.own in
    o ∙ later_own (kind_of (node_tree c.args.node)) (ap sort_of (sym o) ∙ c.requires.sort) (λ e. c.in_default.not-Member (o ∙ e)) (λ e. c.in_default.not-Template (o ∙ e)) (λ e. c.in_default.not-Delete (o ∙ e)) (λ e. c.in_default.not-SuperProperty (o ∙ e)) (λ e. c.in_default.not-SuperCall (o ∙ e)) (λ e. c.in_default.not-Target (o ∙ e)) (λ e. c.in_default.not-ClassElements (o ∙ e)) (λ e. c.in_default.not-Literal (o ∙ e))
