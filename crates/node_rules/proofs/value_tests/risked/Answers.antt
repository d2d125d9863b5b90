use Rattle.std.proofs.Common.{◌∙◌}
use Rattle.tree.specs.Node.{node_tree}
use Rattle.node_rules.proofs.RiskLemmas.{nothing-risked}
use Rattle.node_rules.proofs.value_tests.risked.Goals as goal

pub returns-in_default : goal.returns-in_default
returns-in_default c =
    let o = c.kind.ensures in
    let d = c.in_default in
    nothing-risked (node_tree c.args.node) (λ e. d.not-CallExpression (o ∙ e)) (λ e. d.not-MemberExpression (o ∙ e)) (λ e. d.not-NewExpression (o ∙ e)) (λ e. d.not-TaggedTemplateExpression (o ∙ e)) (λ e. d.not-SpreadElement (o ∙ e)) (λ e. d.not-ClassDeclaration (o ∙ e))
    (λ e. d.not-ClassExpression (o ∙ e)) (λ e. d.not-ForOfStatement (o ∙ e)) (λ e. d.not-BinaryExpression (o ∙ e)) (λ e. d.not-AssignmentExpression (o ∙ e)) (λ e. d.not-VariableDeclarator (o ∙ e)) (λ e. d.not-AssignmentPattern (o ∙ e))
