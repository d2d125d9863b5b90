use Rattle.std.proofs.Common.{◌∙◌, sym}
use Rattle.tree.specs.Node.{node_tree}
use Rattle.tree.specs.Tree.{kind_of, text_of, flags_of, parts_of}
use Rattle.spellings.specs.Entries.{around}
use Rattle.spellings.proofs.Tables.{definition_default}
use Rattle.spellings.proofs.expressions.definition_production.Goals as goal

pub returns-in_default : goal.returns-in_default
returns-in_default c =
    let n = node_tree c.args.node in
    let d = c.in_default in
    c.reference_production.ensures ∙ sym (definition_default (kind_of n) (text_of n) (flags_of n) (around (parts_of n))
    (λ h. d.not-FunctionExpression (c.kind.ensures ∙ h)) (λ h. d.not-ClassExpression (c.kind.ensures ∙ h)) (λ h. d.not-ArrowFunctionExpression (c.kind.ensures ∙ h)))
