use Rattle.std.proofs.Common.{◌∙◌, sym}
use Rattle.tree.specs.Node.{node_tree}
use Rattle.tree.specs.Tree.{kind_of, text_of, flags_of, parts_of}
use Rattle.spellings.specs.Entries.{around}
use Rattle.spellings.proofs.Tables.{reference_default}
use Rattle.spellings.proofs.expressions.reference_production.Goals as goal

pub returns-in_default : goal.returns-in_default
returns-in_default c =
    let n = node_tree c.args.node in
    let d = c.in_default in
    c.operation_production.ensures ∙ sym (reference_default (kind_of n) (text_of n) (flags_of n) (around (parts_of n))
    (λ h. d.not-TaggedTemplateExpression (c.kind.ensures ∙ h)) (λ h. d.not-MemberExpression (c.kind.ensures ∙ h)) (λ h. d.not-CallExpression (c.kind.ensures ∙ h)) (λ h. d.not-NewExpression (c.kind.ensures ∙ h))
    (λ h. d.not-MetaProperty (c.kind.ensures ∙ h)) (λ h. d.not-ImportExpression (c.kind.ensures ∙ h)) (λ h. d.not-ChainExpression (c.kind.ensures ∙ h)))
