use Rattle.std.proofs.Common.{◌∙◌, sym}
use Rattle.tree.specs.Node.{node_tree}
use Rattle.tree.specs.Tree.{kind_of, text_of, flags_of, parts_of}
use Rattle.spellings.specs.Entries.{around}
use Rattle.spellings.proofs.Tables.{expression_default}
use Rattle.spellings.proofs.expressions.expression_production.Goals as goal

pub returns-in_default : goal.returns-in_default
returns-in_default c =
    let n = node_tree c.args.node in
    let d = c.in_default in
    c.definition_production.ensures ∙ sym (expression_default (kind_of n) (text_of n) (flags_of n) (around (parts_of n))
    (λ h. d.not-Identifier (c.kind.ensures ∙ h)) (λ h. d.not-Literal (c.kind.ensures ∙ h)) (λ h. d.not-ThisExpression (c.kind.ensures ∙ h))
    (λ h. d.not-ArrayExpression (c.kind.ensures ∙ h)) (λ h. d.not-ObjectExpression (c.kind.ensures ∙ h)) (λ h. d.not-TemplateLiteral (c.kind.ensures ∙ h)))
