use Rattle.std.proofs.Common.{◌≡◌, ◌∙◌, ◌<◌, false, sym, ap, arith}
use Rattle.tree.specs.Node.{list_parts}
use Rattle.tree.specs.Tree.{part_count}
use Rattle.spelling_table.specs.Outlines.{parts_after, is_over}
use Rattle.spellings.specs.Remaining.{slots_left}
use Rattle.spellings.proofs.PartsAfter.{over_left, end_left, gap_left, gap_skipped}
use Rattle.spellings.proofs.slot_cursor.SlotCursor.take_after.Goals as goal

pub returns-then-is_over-clause-taken : goal.returns-then-is_over-clause-taken
returns-then-is_over-clause-taken c = over_left c.args.self.now.tail _ (sym c.is_over.ensures ∙ c.if-is_over.true)

pub take_of_list-requires-clause-next : goal.take_of_list-requires-clause-next
take_of_list-requires-clause-next c = sym c.loop-index.invariant.rest

pub returns-then-not-skips_gap-clause-taken : goal.returns-then-not-skips_gap-clause-taken
returns-then-not-skips_gap-clause-taken c =
    let ps = list_parts c.args.parts in
    let here : c.loop-index.index < part_count ps = omega (arith, c.len-index-end.ensures, c.loop-index-test.true) in
    let lasts : is_over c.loop-index.self.tail ≡ false = ap (λ s. is_over s.tail) c.loop-index.invariant.same ∙ sym c.is_over.ensures ∙ c.if-is_over.false in
    ap (λ s. slots_left s.tail (parts_after s.from ps)) (sym c.loop-index.invariant.same)
    ∙ sym c.loop-index.invariant.rest ∙ gap_left c.loop-index.self.tail ps c.loop-index.index c.in_default.ensures here lasts (sym c.skips_gap.ensures ∙ c.if-not-skips_gap.true)

pub loop-index-preserved : goal.loop-index-preserved
loop-index-preserved c =
    let ps = list_parts c.args.parts in
    let here : c.loop-index.index < part_count ps = omega (arith, c.len-index-end.ensures, c.loop-index-test.true) in
    let lasts : is_over c.loop-index.self.tail ≡ false = ap (λ s. is_over s.tail) c.loop-index.invariant.same ∙ sym c.is_over.ensures ∙ c.if-is_over.false in
    record { same = c.loop-index.invariant.same; rest = gap_skipped c.loop-index.self.tail ps c.loop-index.index c.in_default.ensures here lasts (sym c.skips_gap.ensures ∙ c.if-not-skips_gap.false) ∙ c.loop-index.invariant.rest }

pub returns-clause-taken : goal.returns-clause-taken
returns-clause-taken c =
    let ps = list_parts c.args.parts in
    ap (λ s. slots_left s.tail (parts_after s.from ps)) (sym c.loop-index.invariant.same)
    ∙ sym c.loop-index.invariant.rest ∙ end_left c.loop-index.self.tail ps c.loop-index.index (omega (arith, c.len-index-end.ensures, c.loop-index-test.false))
