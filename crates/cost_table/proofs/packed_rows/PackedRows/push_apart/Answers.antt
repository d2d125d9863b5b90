use Rattle.std.proofs.Common.{◌∙◌, [], ◌∷◌, ◌++◌, length, ap, arith}
use Rattle.std.specs.Prelude.{map}
use Rattle.std.proofs.lemmas.List.{length-append}
use Rattle.cost_table.specs.Packed.{in_order, unpacked}
use Rattle.cost_table.specs.Rows.{row_with}
use Rattle.cost_table.proofs.PackedRowLists.{on_err, rows_kept, apart_pushed, pushed_order, one_more_packed, all_in_more}
use Rattle.cost_table.proofs.packed_rows.PackedRows.push_apart.Goals as goal

pub returns-in_err-push-2-clause-kept : goal.returns-in_err-push-2-clause-kept
returns-in_err-push-2-clause-kept c =
    on_err c.from_residual-in_err-push-2.result
    ((λ j. map (unpacked (c.in_ok-push.ensures.items j)) (in_order c.self.inside.turned (c.in_err-push-2.ensures.kept j)))
    ∙ rows_kept c.self.inside.apart.items c.args.costs.now (in_order c.self.inside.turned c.self.inside.packed) c.self.invariant ∙ ap (λ v. v.items) c.self.view_is)

pub invariant_of-self-2 : goal.invariant_of-self-2
invariant_of-self-2 c =
    let count = ap length c.in_ok-push.ensures.items ∙ length-append c.self.inside.apart.items (c.args.costs.now ∷ []) in
    one_more_packed (length c.push.new.self.items) c.self.inside.turned c.self.inside.packed c.push-2.new.self _
    (all_in_more (length c.self.inside.apart.items) (length c.push.new.self.items) (in_order c.self.inside.turned c.self.inside.packed) (omega (arith, count)) c.self.invariant) c.in_ok-push-2.ensures.items
    (omega (arith, count, c.of-place.ensures, c.len.ensures, c.self.inside.apart.ok.0))

pub returns-clause-rows : goal.returns-clause-rows
returns-clause-rows c =
    apart_pushed c.self.inside.apart.items c.push.new.self.items c.args.costs.now (in_order c.self.inside.turned c.self.inside.packed) (in_order c.self.inside.turned c.push-2.new.self) c.args.kind c.of-place.result c.self.invariant
    c.in_ok-push.ensures.items (c.of-place.ensures ∙ c.len.ensures ∙ c.self.inside.apart.ok.0) (pushed_order c.self.inside.turned c.self.inside.packed c.push-2.new.self _ c.in_ok-push-2.ensures.items)
    ∙ ap (λ v. v.items ++ row_with c.args.kind c.args.costs.now ∷ []) c.self.view_is
