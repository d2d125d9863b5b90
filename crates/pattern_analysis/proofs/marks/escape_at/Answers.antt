use Rattle.std.proofs.Common.{sym, ◌∙◌}
use Rattle.tokens.specs.Alphabet.{is_decimal_digit}
use Rattle.regular_expressions.proofs.Words.{digit_is_ascii, run_slice}
use Rattle.pattern_analysis.proofs.MarkSteps.{reference_read}
use Rattle.pattern_analysis.proofs.marks.escape_at.Goals as goal

pub returns : goal.returns
returns c =
    let text = c.args.text.now in
    let h = c.digits_end-end.ensures in
    reference_read text c.range.result c.args.at c.digits_end-end.result h
    (c.range.ensures.value ∙ run_slice is_decimal_digit digit_is_ascii text c.args.at c.digits_end-end.result c.utf8.text c.requires h) (sym c.is_reference.ensures ∙ c.if-not-is_reference.false)
