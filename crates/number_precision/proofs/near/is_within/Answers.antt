use Rattle.std.proofs.Common.{◌≡◌, ◌+◌, ◌-◌, ◌*◌, ◌^◌, ◌<◌, arith, ap, sym, ◌∙◌}
use Rattle.std.specs.Str.Parse.{digits_value}
use Rattle.std.proofs.Math.Dec.{lit≤}
use Rattle.std.proofs.Math.Nat.{le_trans}
use Rattle.number_precision.proofs.Nearness.{by_high, doubled-small, is_low, is_room}
use Rattle.number_precision.proofs.near.is_within.Goals as goal

pub scaled-low-requires-clause-number : goal.scaled-low-requires-clause-number
scaled-low-requires-clause-number c = let small = doubled-small c.args.digits.now c.doubled_less_one.result c.requires.digits c.requires.few c.doubled_less_one.ensures in omega arith

pub returns-then-is_less : goal.returns-then-is_less
returns-then-is_less c =
    let d = digits_value 10 c.args.digits.now in
    let low : c.doubled_less_one.result ≡ 2 * d - 1 = omega (arith, c.doubled_less_one.ensures) in
    is_low d c.args.tens c.args.tenths c.args.binary.digits c.args.binary.twos c.min-common.result c.scaled-low.result c.scaled-value.result (omega arith) (omega arith)
    (c.scaled-value.ensures ∙ ap (λ q. q * 2 ^ (c.args.binary.twos + 1 - c.min-common.result) * 10 ^ c.args.tenths) c.new.ensures)
    (c.scaled-low.ensures ∙ ap (λ x. x * 2 ^ (1074 - c.min-common.result) * 10 ^ c.args.tens) low) (sym c.is_less.ensures ∙ c.if-is_less.true)

pub multiply-requires : goal.multiply-requires
multiply-requires c =
    let small = doubled-small c.args.digits.now c.doubled_less_one-high.result c.requires.digits c.requires.few c.doubled_less_one-high.ensures in
    let some : c.doubled_less_one-high.result * 1 + 2 < 2 ^ 340 = omega (arith, small) in
    is_room _ (le_trans some (lit≤ tt))

pub scaled-requires-clause-number : goal.scaled-requires-clause-number
scaled-requires-clause-number c =
    let small = doubled-small c.args.digits.now c.doubled_less_one-high.result c.requires.digits c.requires.few c.doubled_less_one-high.ensures in
    omega (arith, small, c.multiply.ensures)

pub returns : goal.returns
returns c =
    let d = digits_value 10 c.args.digits.now in
    let low : c.doubled_less_one.result ≡ 2 * d - 1 = omega (arith, c.doubled_less_one.ensures) in
    let high : c.multiply.new.self ≡ 2 * d + 1 = omega (arith, c.doubled_less_one-high.ensures, c.multiply.ensures) in
    c.is_less-2.ensures
    ∙ by_high d c.args.tens c.args.tenths c.args.binary.digits c.args.binary.twos c.min-common.result c.scaled-low.result c.scaled-value.result (omega arith) (omega arith)
    (c.scaled-value.ensures ∙ ap (λ q. q * 2 ^ (c.args.binary.twos + 1 - c.min-common.result) * 10 ^ c.args.tenths) c.new.ensures) c.scaled.result
    (c.scaled-low.ensures ∙ ap (λ x. x * 2 ^ (1074 - c.min-common.result) * 10 ^ c.args.tens) low)
    (c.scaled.ensures ∙ ap (λ x. x * 2 ^ (1074 - c.min-common.result) * 10 ^ c.args.tens) high) (sym c.is_less.ensures ∙ c.if-is_less.false)
