use Rattle.std.proofs.Common.{◌∙◌, sym}
use Rattle.tree.specs.Node.{node_tree}
use Rattle.tree.specs.Tree.{kind_of, text_of, flags_of, parts_of}
use Rattle.spellings.specs.Entries.{around}
use Rattle.spellings.proofs.Tables.{statement_default}
use Rattle.spellings.proofs.statements.statement_production.Goals as goal

pub returns-in_default : goal.returns-in_default
returns-in_default c =
    let n = node_tree c.args.node in
    let d = c.in_default in
    c.branch_production.ensures ∙ sym (statement_default c.args.returns (kind_of n) (text_of n) (flags_of n) (around (parts_of n))
    (λ h. d.not-VariableDeclaration (c.kind.ensures ∙ h)) (λ h. d.not-EmptyStatement (c.kind.ensures ∙ h)) (λ h. d.not-ExpressionStatement (c.kind.ensures ∙ h)) (λ h. d.not-ContinueStatement (c.kind.ensures ∙ h)) (λ h. d.not-BreakStatement (c.kind.ensures ∙ h)) (λ h. d.not-ReturnStatement (c.kind.ensures ∙ h)) (λ h. d.not-ThrowStatement (c.kind.ensures ∙ h)) (λ h. d.not-DebuggerStatement (c.kind.ensures ∙ h)))
