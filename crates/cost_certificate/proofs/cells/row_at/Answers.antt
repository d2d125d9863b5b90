use Rattle.std.proofs.Common.{◌≡◌, ◌+◌, ◌-◌, ◌∙◌, ap, arith}
use Rattle.std.specs.Prelude.{slice_index_or}
use Rattle.cost_table.specs.Costs.{eight}
use Rattle.cost_certificate.proofs.CellRows.{row_given, row_past, any_row}
use Rattle.cost_certificate.proofs.cells.row_at.Goals as goal

pub returns-then-index-row_count : goal.returns-then-index-row_count
returns-then-index-row_count c = row_past c.args.table.now.rows.items c.args.index (omega (arith, c.if-index-row_count.true, c.row_count.ensures))

pub returns : goal.returns
returns c =
    let rows = c.args.table.now.rows.items in
    let i = c.args.index in
    let z : i + 1 - 1 ≡ i = omega arith in
    row_given rows i any_row c.row.result.0 c.row.result.1 (omega (arith, c.if-index-row_count.false, c.row_count.ensures))
    (c.row.ensures.kind any_row ∙ ap (λ k. (slice_index_or rows k any_row).kind) z) (c.row.ensures.cells any_row ∙ ap (λ k. eight (slice_index_or rows k any_row).costs) z)
