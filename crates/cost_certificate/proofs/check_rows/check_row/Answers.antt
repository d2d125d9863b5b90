use Rattle.std.proofs.Common.{◌∙◌, ◌+◌, suc, [], ◌∷◌, refl, subst, sym}
use Rattle.tree.specs.Node.{node_tree}
use Rattle.cost_table.specs.Tables.{table_of}
use Rattle.cost_certificate.specs.Walked.{IsBounded}
use Rattle.cost_certificate.proofs.CheckedRows.{one_passed}
use Rattle.cost_certificate.proofs.CellRows.{at_widest, own_fault}
use Rattle.cost_certificate.proofs.Bounds.{bounded_row}
use Rattle.cost_certificate.proofs.WeighedNodes.{inside_numbers}
use Rattle.cost_certificate.proofs.check_rows.check_row.Goals as goal

pub returns-clause-bounds : goal.returns-clause-bounds
returns-clause-bounds c = λ a row i.
    let T = table_of c.args.table.now.rows.items c.args.table.now.total in
    let n = node_tree c.args.node in
    let w = c.costs-weighed.result in
    let inside = inside_numbers T a n c.args.index c.args.inside.now.weighed w row i c.costs-weighed.ensures in
    subst (λ o. IsBounded T a n (suc c.args.index) (record { outline = o; costs = c.row_costs-costs.result })) (sym c.of_symbol.ensures)
    (bounded_row T a n (suc c.args.index) w.outline c.row_costs-costs.result w.costs row inside (c.row_costs-costs.ensures.costs T c.args.index c.row_at-row.ensures) c.row_costs-costs.ensures.small)

pub returns-clause-passed : goal.returns-clause-passed
returns-clause-passed c = λ a ns row i behind.
    let T = table_of c.args.table.now.rows.items c.args.table.now.total in
    let n = node_tree c.args.node in
    let w = c.costs-weighed.result in
    let inside = inside_numbers T a n c.args.index c.args.inside.now.weighed w row i c.costs-weighed.ensures in
    let costs = c.row_costs-costs.ensures.costs T c.args.index c.row_at-row.ensures in
    let fault = c.fault.ensures ∙ own_fault T n (suc c.args.index) c.row_costs-costs.result w.costs costs c.row_costs-costs.ensures.small (at_widest T a n (suc (suc c.args.index)) w.costs row inside.costs) in
    c.joined.ensures.passed T (n ∷ []) ns c.args.index
    (one_passed T n c.args.index (record { next = c.args.index + 1; misshapen = c.misshapen.result; fault = c.fault.result }) refl (c.misshapen.ensures.matched T c.row_at-row.ensures) c.misshapen.ensures.within fault)
    behind
