use Rattle.std.proofs.Common.{◌≡◌, ◌∙◌, reverse, ap, sym, subst, length}
use Rattle.std.specs.Prelude.{map, All}
use Rattle.cost_table.specs.Packed.{in_order, unpacked, IsPacked}
use Rattle.cost_table.proofs.PackedRowLists.{map-turned, turned_order, All-turned}
use Rattle.cost_table.proofs.packed_rows.PackedRows.reverse_rows.Goals as goal

pub invariant_of-self : goal.invariant_of-self
invariant_of-self c =
    let ps = in_order c.self.inside.turned c.self.inside.packed in
    let P = IsPacked (length c.self.inside.apart.items) in
    let turned : in_order c.swap.new.x c.swap.new.y ≡ reverse ps = (λ j. in_order (c.swap.ensures.x_after j) (c.swap.ensures.y_after j)) ∙ turned_order c.self.inside.turned c.self.inside.packed in
    subst (All P) (sym turned) (All-turned P ps c.self.invariant)

pub returns : goal.returns
returns c =
    let ps = in_order c.self.inside.turned c.self.inside.packed in
    let f = unpacked c.self.inside.apart.items in
    let turned : in_order c.swap.new.x c.swap.new.y ≡ reverse ps = (λ j. in_order (c.swap.ensures.x_after j) (c.swap.ensures.y_after j)) ∙ turned_order c.self.inside.turned c.self.inside.packed in
    ap (map f) turned ∙ map-turned f ps ∙ ap (λ v. reverse v.items) c.self.view_is
