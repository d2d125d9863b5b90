use Rattle.std.proofs.Common.{◌∙◌}
use Rattle.tree.specs.Node.{node_tree}
use Rattle.node_rules.proofs.RemarkLemmas.{nothing-said}
use Rattle.node_rules.proofs.around.Around.remark_inside.Goals as goal

pub returns-in_default : goal.returns-in_default
returns-in_default c =
    let o = c.kind.ensures in
    let d = c.in_default in
    nothing-said c.args.self (node_tree c.args.node) (λ e. d.not-BinaryExpression (o ∙ e)) (λ e. d.not-VariableDeclaration (o ∙ e)) (λ e. d.not-ClassDeclaration (o ∙ e)) (λ e. d.not-ClassExpression (o ∙ e)) (λ e. d.not-ClassBody (o ∙ e)) (λ e. d.not-TryStatement (o ∙ e))
