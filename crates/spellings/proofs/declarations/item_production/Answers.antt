use Rattle.std.proofs.Common.{◌∙◌, sym}
use Rattle.tree.specs.Node.{node_tree}
use Rattle.tree.specs.Tree.{kind_of, text_of, flags_of, parts_of}
use Rattle.spellings.specs.Entries.{around}
use Rattle.spellings.proofs.Tables.{item_default}
use Rattle.spellings.proofs.declarations.item_production.Goals as goal

pub returns-in_default : goal.returns-in_default
returns-in_default c =
    let n = node_tree c.args.node in
    let d = c.in_default in
    c.statement_production.ensures ∙ sym (item_default c.args.returns (kind_of n) (text_of n) (flags_of n) (around (parts_of n))
    (λ h. d.not-FunctionDeclaration (c.kind.ensures ∙ h)) (λ h. d.not-ClassDeclaration (c.kind.ensures ∙ h)) (λ h. d.not-VariableDeclaration (c.kind.ensures ∙ h)))
