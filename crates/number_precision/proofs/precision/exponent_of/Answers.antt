use Rattle.std.proofs.Common.{◌+◌, arith}
use Rattle.std.proofs.Math.Dec.{lit≤}
use Rattle.std.proofs.lemmas.Int.Digits.{digits_value_more}
use Rattle.std.proofs.lemmas.Str.Parse.{digits_value-take-le}
use Rattle.number_precision.proofs.Nearness.{digit_at}
use Rattle.number_precision.proofs.precision.exponent_of.Goals as goal

pub returns-then-exponent-clause-none : goal.returns-then-exponent-clause-none
returns-then-exponent-clause-none c =
    let ds = c.args.digits.now in
    let i = c.loop-index.index in
    let value = c.digit.ensures.value (digit_at ds i 0 c.requires c.loop-index-test.true) in
    let more = digits_value_more 10 ds i c.loop-index-test.true in
    let most = digits_value-take-le 10 ds (i + 1) (lit≤ tt) in
    omega (arith, value, more, most, c.loop-index.invariant.0, c.if-exponent.true)

pub loop-index-preserved : goal.loop-index-preserved
loop-index-preserved c =
    let ds = c.args.digits.now in
    let i = c.loop-index.index in
    let value = c.digit.ensures.value (digit_at ds i 0 c.requires c.loop-index-test.true) in
    let more = digits_value_more 10 ds i c.loop-index-test.true in
    (omega (arith, value, more, c.loop-index.invariant.0), omega (arith, c.if-exponent.false))
