use Rattle.std.proofs.Common.{◌∙◌, ◌<◌, suc, sym, arith}
use Rattle.tree.specs.Node.{node_tree, list_parts}
use Rattle.tree.specs.Tree.{part_count}
use Rattle.spelling_table.specs.Outlines.{parts_after}
use Rattle.spellings.proofs.PartsAfter.{over_runs, end_runs, gap_stops, gap_passes, part_stops, part_passes, left-behind}
use Rattle.spellings.proofs.walk.list_fits_by_part.Goals as goal

pub returns-then-is_over : goal.returns-then-is_over
returns-then-is_over c =
    over_runs c.loop-index.tail _ (sym c.is_over.ensures ∙ c.if-is_over.true) ∙ c.loop-index.invariant

pub returns-then-not-skips_gap : goal.returns-then-not-skips_gap
returns-then-not-skips_gap c =
    let ps = list_parts c.args.parts in
    let here : c.loop-index.index < part_count ps = omega (arith, c.len-count.ensures, c.loop-index-test.true) in
    gap_stops c.loop-index.tail ps c.loop-index.index c.in_default.ensures here (sym c.is_over.ensures ∙ c.if-is_over.false) (sym c.skips_gap.ensures ∙ c.if-not-skips_gap.true) ∙ c.loop-index.invariant

pub loop-index-preserved-in_default : goal.loop-index-preserved-in_default
loop-index-preserved-in_default c =
    let ps = list_parts c.args.parts in
    let here : c.loop-index.index < part_count ps = omega (arith, c.len-count.ensures, c.loop-index-test.true) in
    gap_passes c.loop-index.tail ps c.loop-index.index c.in_default.ensures here (sym c.is_over.ensures ∙ c.if-is_over.false) (sym c.skips_gap.ensures ∙ c.if-not-skips_gap.false) ∙ c.loop-index.invariant

pub returns-in_default-slot_of_part : goal.returns-in_default-slot_of_part
returns-in_default-slot_of_part c =
    let ps = list_parts c.args.parts in
    part_stops c.loop-index.tail ps c.loop-index.index (node_tree c.in-Some.part) c.in-Some.ensures (sym c.is_over.ensures ∙ c.if-is_over.false) (c.in_default-slot_of_part.ensures (parts_after (suc c.loop-index.index) ps) (left-behind ps c.len-count.result c.loop-index.index c.len-count.ensures c.loop-index-test.true)) ∙ c.loop-index.invariant

pub loop-index-preserved : goal.loop-index-preserved
loop-index-preserved c =
    let ps = list_parts c.args.parts in
    let found = c.in-Some-slot_of_part in
    part_passes c.loop-index.tail ps c.loop-index.index (node_tree c.in-Some.part) (found.field-0-0, found.rest) c.in-Some.ensures (sym c.is_over.ensures ∙ c.if-is_over.false) (found.ensures (parts_after (suc c.loop-index.index) ps) (left-behind ps c.len-count.result c.loop-index.index c.len-count.ensures c.loop-index-test.true)) ∙ c.loop-index.invariant

pub returns : goal.returns
returns c =
    let ps = list_parts c.args.parts in
    c.may_end.ensures ∙ end_runs c.loop-index.tail ps c.loop-index.index (omega (arith, c.len-count.ensures, c.loop-index-test.false)) ∙ c.loop-index.invariant
