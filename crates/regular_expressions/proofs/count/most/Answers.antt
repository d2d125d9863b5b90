use Rattle.std.proofs.Common.{true, slice_range}
use Rattle.tokens.specs.Alphabet.{is_decimal_digit}
use Rattle.tokens.specs.Reading.{behind}
use Rattle.regular_expressions.specs.Terms.{closed_count, most}
use Rattle.regular_expressions.proofs.Productions.{passed_through, none_through, most_open, most_ordered}
use Rattle.regular_expressions.proofs.Words.{digit_is_ascii, run_part, run_all}
use Rattle.regular_expressions.proofs.count.most.Goals as goal

pub is_ordered-is_good-requires-clause-most : goal.is_ordered-is_good-requires-clause-most
is_ordered-is_good-requires-clause-most c =
    run_all is_decimal_digit digit_is_ascii c.args.text.now c.as_bytes.result.now c.args.at c.digits_end-end.result c.as_bytes.ensures.value c.utf8.text c.requires.place c.digits_end-end.ensures

pub returns-then-end-at-clause-some : goal.returns-then-end-at-clause-some
returns-then-end-at-clause-some c =
    let text = c.args.text.now in
    let at = c.args.at in
    let end = c.digits_end-end.result in
    let h = c.digits_end-end.ensures in
    passed_through (most c.args.low.now (behind text at)) (closed_count true (behind text end)) text at end h.run.word c.closed_count.result h.run.passed
    (most_open text c.args.low.now at end h c.if-end-at.true) c.closed_count.ensures.some

pub returns-then-end-at-clause-none : goal.returns-then-end-at-clause-none
returns-then-end-at-clause-none c =
    let text = c.args.text.now in
    let at = c.args.at in
    let end = c.digits_end-end.result in
    let h = c.digits_end-end.ensures in
    none_through (most c.args.low.now (behind text at)) (closed_count true (behind text end)) c.closed_count.result
    (most_open text c.args.low.now at end h c.if-end-at.true) c.closed_count.ensures.none

pub returns-clause-some : goal.returns-clause-some
returns-clause-some c =
    let text = c.args.text.now in
    let at = c.args.at in
    let end = c.digits_end-end.result in
    let h = c.digits_end-end.ensures in
    let part = slice_range c.as_bytes.result.now at end in
    let e = run_part is_decimal_digit digit_is_ascii text c.as_bytes.result.now at end c.as_bytes.ensures.value c.utf8.text c.requires.place h in
    passed_through (most c.args.low.now (behind text at)) (closed_count c.is_ordered-is_good.result (behind text end)) text at end h.run.word c.closed_count-2.result h.run.passed
    (most_ordered text c.args.low.now part at end c.is_ordered-is_good.result h c.if-end-at.false e c.is_ordered-is_good.ensures) c.closed_count-2.ensures.some

pub returns-clause-none : goal.returns-clause-none
returns-clause-none c =
    let text = c.args.text.now in
    let at = c.args.at in
    let end = c.digits_end-end.result in
    let h = c.digits_end-end.ensures in
    let part = slice_range c.as_bytes.result.now at end in
    let e = run_part is_decimal_digit digit_is_ascii text c.as_bytes.result.now at end c.as_bytes.ensures.value c.utf8.text c.requires.place h in
    none_through (most c.args.low.now (behind text at)) (closed_count c.is_ordered-is_good.result (behind text end)) c.closed_count-2.result
    (most_ordered text c.args.low.now part at end c.is_ordered-is_good.result h c.if-end-at.false e c.is_ordered-is_good.ensures) c.closed_count-2.ensures.none
