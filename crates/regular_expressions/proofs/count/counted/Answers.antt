use Rattle.std.proofs.Common.{slice_range}
use Rattle.tokens.specs.Alphabet.{is_decimal_digit}
use Rattle.tokens.specs.Reading.{behind}
use Rattle.regular_expressions.specs.Terms.{counted, least}
use Rattle.regular_expressions.proofs.Productions.{passed_through, none_through, counted_as}
use Rattle.regular_expressions.proofs.Words.{digit_is_ascii, run_part, run_all}
use Rattle.regular_expressions.proofs.count.counted.Goals as goal

pub least-requires-clause-digits : goal.least-requires-clause-digits
least-requires-clause-digits c =
    run_all is_decimal_digit digit_is_ascii c.args.text.now c.as_bytes.result.now c.args.at c.digits_end-end.result c.as_bytes.ensures.value c.utf8.text c.requires c.digits_end-end.ensures

pub returns-clause-some : goal.returns-clause-some
returns-clause-some c =
    let text = c.args.text.now in
    let at = c.args.at in
    let end = c.digits_end-end.result in
    let h = c.digits_end-end.ensures in
    let part = slice_range c.as_bytes.result.now at end in
    let e = run_part is_decimal_digit digit_is_ascii text c.as_bytes.result.now at end c.as_bytes.ensures.value c.utf8.text c.requires h in
    passed_through (counted (behind text at)) (least part (behind text end)) text at end h.run.word c.least.result h.run.passed (counted_as text part at end h c.if-end-at.false e) c.least.ensures.some

pub returns-clause-none : goal.returns-clause-none
returns-clause-none c =
    let text = c.args.text.now in
    let at = c.args.at in
    let end = c.digits_end-end.result in
    let h = c.digits_end-end.ensures in
    let part = slice_range c.as_bytes.result.now at end in
    let e = run_part is_decimal_digit digit_is_ascii text c.as_bytes.result.now at end c.as_bytes.ensures.value c.utf8.text c.requires h in
    none_through (counted (behind text at)) (least part (behind text end)) c.least.result (counted_as text part at end h c.if-end-at.false e) c.least.ensures.none
