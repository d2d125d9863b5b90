use Rattle.std.proofs.Common.{◌∙◌, ◌+◌, sym}
use Rattle.tree.specs.Node.{node_tree}
use Rattle.tree.specs.Tree.{kind_of}
use Rattle.cost_certificate.specs.Types.{same_type}
use Rattle.cost_certificate.proofs.CheckedRows.{row_matched, row_mismatched, row_missing}
use Rattle.cost_certificate.proofs.check_rows.misshapen.Goals as goal

pub returns-then-same_type-clause-matched : goal.returns-then-same_type-clause-matched
returns-then-same_type-clause-matched c = λ t e.
    row_matched t.rows c.args.index (c.in-Some.kind, c.in-Some.field-0-1) (kind_of (node_tree c.args.node)) (sym c.in-Some.is ∙ e)
    ((λ j. same_type c.in-Some.kind (sym c.kind.ensures j)) ∙ sym c.same_type.ensures ∙ c.if-same_type.true)

pub returns-else-same_type-clause-matched : goal.returns-else-same_type-clause-matched
returns-else-same_type-clause-matched c = λ t e.
    row_mismatched t.rows c.args.index (c.args.index + 1) (c.in-Some.kind, c.in-Some.field-0-1) (kind_of (node_tree c.args.node)) (sym c.in-Some.is ∙ e)
    ((λ j. same_type c.in-Some.kind (sym c.kind.ensures j)) ∙ sym c.same_type.ensures ∙ c.if-same_type.false)

pub returns-in_default-clause-matched : goal.returns-in_default-clause-matched
returns-in_default-clause-matched c = λ t e. row_missing t.rows c.args.index (c.args.index + 1) (kind_of (node_tree c.args.node)) (sym c.in_default.is ∙ e)
