use Rattle.std.proofs.Common.{◌∙◌, length, sym, ap, subst}
use Rattle.std.specs.Prelude.{◌≡◌, map, slice_get, Some}
use Rattle.tree.proofs.KindsEqual.{kinds_equal}
use Rattle.cost_table.specs.Costs.{eight}
use Rattle.cost_table.specs.Packed.{free_shape, in_order, shaped}
use Rattle.cost_table.specs.Rows.{shown}
use Rattle.cost_table.proofs.PackedRowLists.{zeros_found}
use Rattle.cost_table.proofs.packed_rows.PackedRows.is_free.Goals as goal

pub returns-then-eq : goal.returns-then-eq
returns-then-eq c = λ h.
    let row = c.in-Same-default-default-eq0 in
    subst (λ v. slice_get (map shown v.items) c.args.index ≡ Some (c.args.kind, eight (shaped (free_shape c.args.rank) 0))) c.self.view_is
    (zeros_found c.self.inside.apart.items (in_order c.self.inside.turned c.self.inside.packed) c.args.index c.len.result c.packed_at.result.now row.own c.args.kind row.shape row.field-2 _
    (c.len.ensures ∙ ap (λ v. length v.items) (sym c.self.view_is)) c.if-index-len.false c.packed_at.ensures row.is (sym row.field-2-is ∙ row.field-2-test)
    ((kinds_equal row.own c.args.kind).0 (sym c.eq.ensures ∙ c.if-eq.true)) (c.fills_row.ensures h 0))
