use Rattle.std.proofs.Common.{get_or, sym, ◌∙◌}
use Rattle.number_precision.proofs.DigitLists.{digit_range, one_more}
use Rattle.number_precision.proofs.precision.is_short_integer.Goals as goal

pub loop-index-preserved : goal.loop-index-preserved
loop-index-preserved c =
    one_more c.args.text.now c.loop-index.index 0 c.loop-index-test.true c.loop-index.invariant (digit_range (get_or c.args.text.now c.loop-index.index 0) (sym c.is_ascii_digit.ensures.value ∙ c.if-not-is_ascii_digit.false))
