use Rattle.std.proofs.Common.{◌≡◌, ◌+◌, ◌^◌, ◌<◌, ◌≤◌, true, false, length, arith, ap, ap₂, sym, ◌∙◌, subst}
use Rattle.std.specs.Float.Numeral.{tens_down, tens_up}
use Rattle.std.specs.Str.Parse.{digits_value}
use Rattle.std.proofs.Math.Dec.{lit≤}
use Rattle.std.proofs.Math.Nat.{lt_of_lt_of_le}
use Rattle.std.proofs.lemmas.Str.Parse.{digits_value-take-le}
use Rattle.number_precision.specs.Near.{is_near}
use Rattle.number_precision.specs.Precision.{is_rounded}
use Rattle.number_precision.proofs.Far.{down_else, down_if, far_exponent, up_else, up_if}
use Rattle.number_precision.proofs.Floats.{infinite, near_of}
use Rattle.number_precision.proofs.Nearness.{few}
use Rattle.number_precision.proofs.precision.is_kept.Goals as goal

pub returns-in_default : goal.returns-in_default
returns-in_default c =
    let p = c.args.numeral.now in
    let d = digits_value 10 c.args.digits.now in
    infinite c.to_float-value.result d (tens_up p + c.args.dropped) (tens_down p) c.in_default.ensures.none
    ∙ ap (is_rounded d (tens_up p + c.args.dropped) (tens_down p)) c.to_float-value.ensures

pub returns-in_default-exponent_of : goal.returns-in_default-exponent_of
returns-in_default-exponent_of c =
    let p = c.args.numeral.now in
    let d = digits_value 10 c.args.digits.now in
    let b = c.in-Some.binary in
    let positive : 0 < d = lt_of_lt_of_le c.requires.positive (digits_value-take-le 10 c.args.digits.now 1 (lit≤ tt)) in
    let short : length p.fraction < 2 ^ 64 = subst (λ ds. length ds < 2 ^ 64) c.fraction.ensures.value (omega arith) in
    far_exponent p d c.args.dropped b.digits b.twos positive (few c.args.digits.now c.requires.digits c.requires.few) c.in-Some.ensures.small.0 c.in-Some.ensures.small.1 (omega arith) short
    (subst (λ ds. 2 ^ 70 ≤ digits_value 10 ds) c.exponent.ensures.value c.in_default-exponent_of.ensures.none)
    ∙ near_of c.to_float-value.result b.digits b.twos d (tens_up p + c.args.dropped) (tens_down p) c.in-Some.ensures.finite
    ∙ ap (is_rounded d (tens_up p + c.args.dropped) (tens_down p)) c.to_float-value.ensures

pub returns-then-is_exponent_negative : goal.returns-then-is_exponent_negative
returns-then-is_exponent_negative c =
    let p = c.args.numeral.now in
    let d = digits_value 10 c.args.digits.now in
    let b = c.in-Some.binary in
    let negative : p.exponent_negative ≡ true = sym c.is_exponent_negative.ensures ∙ c.if-is_exponent_negative.true in
    let tens : c.args.dropped ≡ tens_up p + c.args.dropped = omega (arith, up_if p negative) in
    let tenths : length c.fraction.result.now + c.in-Some-exponent_of.exponent ≡ tens_down p =
    ap₂ (λ m n. m + n) (ap length c.fraction.ensures.value) (c.in-Some-exponent_of.ensures.some ∙ ap (digits_value 10) c.exponent.ensures.value) ∙ sym (down_if p negative)
    in
    c.is_near.ensures ∙ ap₂ (λ t h. is_near d t h b.digits b.twos) tens tenths
    ∙ near_of c.to_float-value.result b.digits b.twos d (tens_up p + c.args.dropped) (tens_down p) c.in-Some.ensures.finite
    ∙ ap (is_rounded d (tens_up p + c.args.dropped) (tens_down p)) c.to_float-value.ensures

pub returns-else-is_exponent_negative : goal.returns-else-is_exponent_negative
returns-else-is_exponent_negative c =
    let p = c.args.numeral.now in
    let d = digits_value 10 c.args.digits.now in
    let b = c.in-Some.binary in
    let negative : p.exponent_negative ≡ false = sym c.is_exponent_negative.ensures ∙ c.if-is_exponent_negative.false in
    let tens : c.in-Some-exponent_of.exponent + c.args.dropped ≡ tens_up p + c.args.dropped =
    ap (λ n. n + c.args.dropped) (c.in-Some-exponent_of.ensures.some ∙ ap (digits_value 10) c.exponent.ensures.value ∙ sym (up_else p negative))
    in
    let tenths : length c.fraction.result.now ≡ tens_down p = ap length c.fraction.ensures.value ∙ sym (omega (arith, down_else p negative)) in
    c.is_near-else-is_exponent_negative.ensures ∙ ap₂ (λ t h. is_near d t h b.digits b.twos) tens tenths
    ∙ near_of c.to_float-value.result b.digits b.twos d (tens_up p + c.args.dropped) (tens_down p) c.in-Some.ensures.finite
    ∙ ap (is_rounded d (tens_up p + c.args.dropped) (tens_down p)) c.to_float-value.ensures
