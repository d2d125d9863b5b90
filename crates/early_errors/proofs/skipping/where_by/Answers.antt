use Rattle.std.proofs.Common.{sym, ap, subst, ◌∙◌}
use Rattle.std.specs.Prelude.{filter}
use Rattle.tree.specs.Node.{node_tree}
use Rattle.early_errors.specs.Around.{is_method}
use Rattle.early_errors.specs.Passed.{IsOpen, is_super_at}
use Rattle.early_errors.specs.Strict.{is_restricted}
use Rattle.early_errors.specs.Walk.{names_at}
use Rattle.early_errors.proofs.PartsByKind.{open_call, open_target, open_unary, open_property, open_object, open_block, on_false, none_where, false_gives, neither}
use Rattle.early_errors.proofs.skipping.where_by.Goals as goal

pub returns-in-Member : goal.returns-in-Member
returns-in-Member c = c.in_member.ensures

pub returns-in-Callee : goal.returns-in-Callee
returns-in-Callee c =
    let t = node_tree c.args.node in
    c.in_parts_unless.ensures c.args.no_arguments t (false_gives c.has_super.result (λ e. open_call c.args.no_arguments t (sym c.requires ∙ c.in-Callee.is) (ap is_super_at (sym c.part.ensures) ∙ sym c.has_super.ensures ∙ e)))

pub returns-in-Target : goal.returns-in-Target
returns-in-Target c =
    let t = node_tree c.args.node in
    c.in_parts_unless-in-Target.ensures c.args.no_arguments t (none_where c.binds_restricted.result (λ e. open_target c.args.no_arguments t (sym c.requires ∙ c.in-Target.is) (ap (λ o. filter is_restricted (names_at o)) (sym c.part-in-Target.ensures) ∙ e)) c.binds_restricted.ensures)

pub returns-in-Operator : goal.returns-in-Operator
returns-in-Operator c =
    let t = node_tree c.args.node in
    c.in_parts_unless-in-Operator.ensures c.args.no_arguments t
    (false_gives c.may_not_delete.result
    (λ e. open_unary c.args.no_arguments t (sym c.requires ∙ c.in-Operator.is) (on_false c.may_not_delete.result e c.may_not_delete.ensures.identifier) (on_false c.may_not_delete.result e c.may_not_delete.ensures.member)))

pub returns-in-Form : goal.returns-in-Form
returns-in-Form c =
    let t = node_tree c.args.node in
    c.in_parts_unless-in-Form.ensures c.args.no_arguments t
    (false_gives c.either.result
    (λ e.
    let n = neither c.args.no_arguments c.is_method.result (sym c.either.ensures ∙ e) in
    subst (λ b. IsOpen b t) (sym n.0) (open_property t (sym c.requires ∙ c.in-Form.is) (ap (λ g. is_method g.form) (sym c.flags.ensures) ∙ sym c.is_method.ensures ∙ n.1))))

pub returns-in-Object : goal.returns-in-Object
returns-in-Object c =
    let t = node_tree c.args.node in
    c.in_parts_unless-in-Object.ensures c.args.no_arguments t (none_where c.has_proto.result (λ e. open_object c.args.no_arguments t (sym c.requires ∙ c.in-Object.is) e) c.has_proto.ensures)

pub returns-in-Items : goal.returns-in-Items
returns-in-Items c =
    let t = node_tree c.args.node in
    c.in_parts_unless-in-Items.ensures c.args.no_arguments t (none_where c.declares_names.result (λ e. open_block c.args.no_arguments t (sym c.requires ∙ c.in-Items.is) e) c.declares_names.ensures)

pub returns-in-Declaration : goal.returns-in-Declaration
returns-in-Declaration c = c.in_parts_unless-in-Declaration.ensures c.args.no_arguments (node_tree c.args.node) (none_where c.declares_more.result (λ e. e c.args.no_arguments) c.declares_more.ensures)
