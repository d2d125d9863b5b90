use Rattle.std.proofs.Common.{◌∙◌, sym, rules}
use Rattle.tree.specs.Node.{node_tree}
use Rattle.tree.specs.Tree.{kind_of, text_of, flags_of, parts_of}
use Rattle.spellings.specs.Entries.{around}
use Rattle.spellings.proofs.Tables.{opening_default}
use Rattle.spellings.proofs.declarations.prologue_item_production.Goals as goal

pub returns-in_default : goal.returns-in_default
returns-in_default c =
    let n = node_tree c.args.node in
    let d = c.in_default in
    c.item_production.ensures ∙ sym (opening_default c.args.returns (kind_of n) (text_of n) (flags_of n) (around (parts_of n))
    (λ h. d.not-ExpressionStatement (c.kind.ensures ∙ h)))

pub returns-in-ExpressionStatement : goal.returns-in-ExpressionStatement
returns-in-ExpressionStatement c = search rules
