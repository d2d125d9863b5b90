use Rattle.std.proofs.Common.{true, sym, ap, refl, ◌∙◌}
use Rattle.std.specs.Prelude.{◌||◌, ◌&&◌}
use Rattle.tree.specs.declared.kind.Kind.TheVariants.{ClassBody}
use Rattle.early_errors.specs.Around.{around_others, in_method}
use Rattle.early_errors.specs.Owns.{round, inner_beside}
use Rattle.early_errors.proofs.Surrounds.{class_surrounds, init_surrounds, plain_surrounds}
use Rattle.early_errors.proofs.around.Context.others.Goals as goal

pub returns-in-FunctionExpression-clause-around : goal.returns-in-FunctionExpression-clause-around
returns-in-FunctionExpression-clause-around c = λ r ps h.
    (λ i. round c.in_function_expression.result (inner_beside (c.in-FunctionExpression.is i) c.args.flags ps r)) ∙ c.in_function_expression.ensures.around r c.args.flags ps refl
    ∙ sym (λ i. around_others (round c.args.self r) (c.in-FunctionExpression.is i) c.args.flags ps)

pub returns-in-ArrowFunctionExpression-clause-around : goal.returns-in-ArrowFunctionExpression-clause-around
returns-in-ArrowFunctionExpression-clause-around c = λ r ps h.
    (λ i. round c.in_arrow.result (inner_beside (c.in-ArrowFunctionExpression.is i) c.args.flags ps r)) ∙ c.in_arrow.ensures.around r c.args.flags ps refl
    ∙ sym (λ i. around_others (round c.args.self r) (c.in-ArrowFunctionExpression.is i) c.args.flags ps)

pub returns-in-Property-clause-around : goal.returns-in-Property-clause-around
returns-in-Property-clause-around c = λ r ps h.
    (λ i. round c.in_property.result (inner_beside (c.in-Property.is i) c.args.flags ps r)) ∙ c.in_property.ensures.around r c.args.flags ps refl
    ∙ sym (λ i. around_others (round c.args.self r) (c.in-Property.is i) c.args.flags ps)

pub returns-in-MethodDefinition-clause-around : goal.returns-in-MethodDefinition-clause-around
returns-in-MethodDefinition-clause-around c = λ r ps h.
    (λ i. round c.in_method.result (inner_beside (c.in-MethodDefinition.is i) c.args.flags ps r)) ∙ c.in_method.ensures.around r c.args.self
    ∙ ap (in_method (round c.args.self r)) (c.both.ensures ∙ ap (λ b. c.args.self.derived && b) c.is_constructor.ensures)
    ∙ sym (λ i. around_others (round c.args.self r) (c.in-MethodDefinition.is i) c.args.flags ps)

pub returns-in-PropertyDefinition-clause-around : goal.returns-in-PropertyDefinition-clause-around
returns-in-PropertyDefinition-clause-around c = λ r ps h. init_surrounds c.args.self c.in_init.result c.args.kind r c.args.flags ps (c.in_init.ensures.around r c.args.self) c.in-PropertyDefinition.is

pub returns-in-ClassExpression-clause-around : goal.returns-in-ClassExpression-clause-around
returns-in-ClassExpression-clause-around c = λ r ps h. class_surrounds c.args.self c.within.result c.args.kind c.args.has_second r c.args.flags ps c.within.ensures.around h c.in-ClassExpression.is

pub returns-in-ClassBody-clause-around : goal.returns-in-ClassBody-clause-around
returns-in-ClassBody-clause-around c = λ r ps h.
    let d = c.args.self.derived in
    (λ i. record (round c.within-in-ClassBody.result (inner_beside (c.in-ClassBody.is i) c.args.flags ps r)) { derived = d }) ∙ (λ i. record (c.within-in-ClassBody.ensures.around (inner_beside ClassBody c.args.flags ps r) i) { derived = d })
    ∙ sym (λ i. around_others (round c.args.self r) (c.in-ClassBody.is i) c.args.flags ps)

pub returns-in-SwitchStatement-clause-around : goal.returns-in-SwitchStatement-clause-around
returns-in-SwitchStatement-clause-around c = λ r ps h.
    (λ i. record (round c.within-in-SwitchStatement.result (inner_beside (c.in-SwitchStatement.is i) c.args.flags ps r)) { in_switch = true }) ∙ (λ i. record (c.within-in-SwitchStatement.ensures.around r i) { in_switch = true })
    ∙ sym (λ i. around_others (round c.args.self r) (c.in-SwitchStatement.is i) c.args.flags ps)

pub returns-in-TaggedTemplateExpression-clause-around : goal.returns-in-TaggedTemplateExpression-clause-around
returns-in-TaggedTemplateExpression-clause-around c = λ r ps h.
    (λ i. record (round c.within-in-TaggedTemplateExpression.result (inner_beside (c.in-TaggedTemplateExpression.is i) c.args.flags ps r)) { tagged = true })
    ∙ (λ i. record (c.within-in-TaggedTemplateExpression.ensures.around r i) { tagged = true })
    ∙ sym (λ i. around_others (round c.args.self r) (c.in-TaggedTemplateExpression.is i) c.args.flags ps)

pub returns-in_default : goal.returns-in_default
returns-in_default c = record {
  around = λ r ps h.
      plain_surrounds c.args.self c.within-in_default.result c.args.kind c.either.result r c.args.flags ps c.within-in_default.ensures.around (c.either.ensures ∙ ap (λ b. c.args.self.in_loop || b) c.is_loop.ensures)
      c.in_default.not-FunctionDeclaration c.in_default.not-FunctionExpression c.in_default.not-ArrowFunctionExpression c.in_default.not-MethodDefinition c.in_default.not-PropertyDefinition c.in_default.not-StaticBlock c.in_default.not-Property c.in_default.not-MemberExpression c.in_default.not-ClassExpression c.in_default.not-ClassDeclaration c.in_default.not-ClassBody c.in_default.not-SwitchStatement c.in_default.not-TaggedTemplateExpression;
  unknown = c.within-in_default.ensures.unknown;
}
