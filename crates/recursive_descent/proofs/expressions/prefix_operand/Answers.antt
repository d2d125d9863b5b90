use Rattle.std.proofs.Common.{◌≡◌, ◌≤◌, false, ap, sym, subst, ◌∙◌, [], ◌∷◌}
use Rattle.std.proofs.lemmas.Bool.{false≢true}
use Rattle.tree.specs.declared.kind.Kind.TheVariants.{AwaitExpression, UnaryExpression}
use Rattle.tree.specs.Tree.{node, plain, height, push}
use Rattle.language.specs.Vocabulary.{among}
use Rattle.parser_tables.specs.declared.operand.Operand.{Operand}
use Rattle.recursive_descent.proofs.reading.WaitingNodes.{waits_one, waits_first}
use Rattle.recursive_descent.proofs.sound_expressions.PrefixOperators.{no_steps, await_made, unary_made}
use Rattle.recursive_descent.proofs.expressions.prefix_operand.Goals.{in_default, in-text, in-text-2}
use Rattle.recursive_descent.proofs.expressions.prefix_operand.Goals as goal

pub returns-then-eq-clause-made : goal.returns-then-eq-clause-made
returns-then-eq-clause-made c =
    let steps : among c.args.text.now ("++" ∷ "--" ∷ []) ≡ false = elim c.if-matches-2.branch [
      | in_default w ↦ no_steps c.args.text.now w.in_default.not-text w.in_default.not-text-2
      | in-text w ↦ absurd (false≢true (sym c.if-matches.false ∙ w.matches-is))
      | in-text-2 w ↦ absurd (false≢true (sym c.if-matches.false ∙ w.matches-is))
    ] in
    let span = c.span_from-span.ensures in
    let operand = c.in_ok-into_expression.ensures in
    await_made c.args.text.now c.args.start c.args.cursor.now.last.stop c.args.operand c.plain-then-eq.result steps c.plain-then-eq.ensures (subst (λ x. height x ≤ c.args.high) (sym c.in_ok-node-2.ensures.made.0) c.in_ok-node-2.ensures.made.1) c.one-nodes-2.ensures operand.0 operand.1 (sym c.eq.ensures ∙ c.if-eq.true)
    (c.in_ok-node-2.ensures.made.0 ∙ (λ i. node AwaitExpression [] plain (span i).start (span i).end c.one-nodes-2.result))

pub returns-clause-made : goal.returns-clause-made
returns-clause-made c =
    let steps : among c.args.text.now ("++" ∷ "--" ∷ []) ≡ false = elim c.if-matches-2.branch [
      | in_default w ↦ no_steps c.args.text.now w.in_default.not-text w.in_default.not-text-2
      | in-text w ↦ absurd (false≢true (sym c.if-matches.false ∙ w.matches-is))
      | in-text-2 w ↦ absurd (false≢true (sym c.if-matches.false ∙ w.matches-is))
    ] in
    let span = c.span_from-span.ensures in
    let operand = c.in_ok-into_expression.ensures in
    unary_made c.args.text.now c.args.start c.args.cursor.now.last.stop c.args.operand c.plain-2.result steps c.plain-2.ensures (subst (λ x. height x ≤ c.args.high) (sym c.in_ok-node-3.ensures.made.0) c.in_ok-node-3.ensures.made.1) c.one-nodes-2.ensures operand.0 operand.1 (sym c.eq.ensures ∙ c.if-eq.false)
    (c.in_ok-node-3.ensures.made.0 ∙ (λ i. node UnaryExpression c.args.text.now plain (span i).start (span i).end c.one-nodes-2.result))

pub returns-then-matches-clause-waits : goal.returns-then-matches-clause-waits
returns-then-matches-clause-waits c = λ base h.
    c.in_ok-node.ensures.waits base (waits_one base (c.in_ok-target.ensures.waits base h) c.one-nodes.ensures) ∙ ap (λ (p : Operand). push base p.cover.node) (sym c.plain.ensures)

pub returns-then-eq-clause-waits : goal.returns-then-eq-clause-waits
returns-then-eq-clause-waits c = λ base h.
    c.in_ok-node-2.ensures.waits base (waits_first base h c.in_ok-into_expression.ensures.0 c.one-nodes-2.ensures) ∙ ap (λ (p : Operand). push base p.cover.node) (sym c.plain-then-eq.ensures)

pub returns-clause-waits : goal.returns-clause-waits
returns-clause-waits c = λ base h.
    c.in_ok-node-3.ensures.waits base (waits_first base h c.in_ok-into_expression.ensures.0 c.one-nodes-2.ensures) ∙ ap (λ (p : Operand). push base p.cover.node) (sym c.plain-2.ensures)
