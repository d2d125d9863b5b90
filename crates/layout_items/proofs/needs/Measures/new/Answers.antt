use Rattle.std.proofs.Common.{refl}
use Rattle.layout_items.specs.declared.needs.Measures.{Measures}
use Rattle.layout_items.specs.Passes.{all_flat, count, needs_of}
use Rattle.layout_items.specs.Reach.{columns_to_break, first_line}
use Rattle.layout_items.proofs.GroupTails.{no_tails}
use Rattle.layout_items.proofs.needs.Measures.new.Goals as goal

pub returns : goal.returns
unfolding all_flat count columns_to_break first_line needs_of
returns c =
    let m : Measures = record { columns = record { flat = 0; forced = 0; firm = 0; to_break = 0; to_end = 0; firm_to_end = 0 }; innermost = c.new.result; outer = c.new-2.result; needs = c.new-3.result } in
    record { columns = refl; tails = no_tails m c.new.ensures c.new-2.ensures.items; needs = c.new-3.ensures.items }
