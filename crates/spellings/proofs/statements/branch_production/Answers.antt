use Rattle.std.proofs.Common.{◌∙◌, sym}
use Rattle.tree.specs.Node.{node_tree}
use Rattle.tree.specs.Tree.{kind_of, flags_of, parts_of}
use Rattle.spellings.specs.Entries.{around}
use Rattle.spellings.proofs.Tables.{branch_default}
use Rattle.spellings.proofs.statements.branch_production.Goals as goal

pub returns-in_default : goal.returns-in_default
returns-in_default c =
    let n = node_tree c.args.node in
    let d = c.in_default in
    c.loop_production.ensures ∙ sym (branch_default c.args.returns (kind_of n) (flags_of n) (around (parts_of n))
    (λ h. d.not-BlockStatement (c.kind.ensures ∙ h)) (λ h. d.not-IfStatement (c.kind.ensures ∙ h)) (λ h. d.not-LabeledStatement (c.kind.ensures ∙ h)) (λ h. d.not-SwitchStatement (c.kind.ensures ∙ h)) (λ h. d.not-TryStatement (c.kind.ensures ∙ h)))
