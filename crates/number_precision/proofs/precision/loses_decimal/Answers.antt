use Rattle.std.proofs.Common.{◌≡◌, ◌≤◌, ◌<◌, ◌++◌, take, length, sym, ap, ap₂, ◌∙◌, subst, arith, eqb-true}
use Rattle.std.proofs.lemmas.Bool.{eqb-false}
use Rattle.std.specs.Str.Parse.{AllDigits, digits_value}
use Rattle.number_precision.specs.Digits.{without_zeros}
use Rattle.number_precision.specs.Precision.{loses_decimal, significant_of}
use Rattle.number_precision.proofs.DigitLists.{first_positive, joined-digits, left_of, significant-shorter}
use Rattle.number_precision.proofs.Floats.{empty_kept}
use Rattle.number_precision.proofs.precision.loses_decimal.Goals as goal

pub returns-then-is_empty : goal.returns-then-is_empty
returns-then-is_empty c =
    let p = c.scan-numeral.result in
    let ds = p.whole ++ p.fraction in
    let counted : without_zeros ds ≡ c.without_zeros-counted.result.now = sym (c.without_zeros-counted.ensures ∙ ap without_zeros (c.deref.ensures.value ∙ c.in_ok-digits.ensures)) in
    let same : significant_of p.point (without_zeros ds) ≡ c.significant_of-significant.result.now = ap₂ significant_of (sym c.has_point.ensures) counted ∙ sym c.significant_of-significant.ensures in
    let digits = joined-digits p.whole p.fraction c.scan-numeral.ensures.digits.0 c.scan-numeral.ensures.digits.1 in
    let none : length c.significant_of-significant.result.now ≡ 0 = eqb-true _ _ (sym c.is_empty.ensures ∙ c.if-is_empty.true) in
    empty_kept p (ap length same ∙ none) ((left_of p.point ds digits).nothing (ap length same ∙ none)) ∙ ap loses_decimal c.scan-numeral.ensures.parts

pub overflow_sub-dropped : goal.overflow_sub-dropped
overflow_sub-dropped c =
    subst (λ ds. length ds ≤ length c.without_zeros-counted.result.now) (sym c.significant_of-significant.ensures) (significant-shorter c.has_point.result c.without_zeros-counted.result.now)

pub is_kept-requires-clause-digits : goal.is_kept-requires-clause-digits
is_kept-requires-clause-digits c =
    let p = c.scan-numeral.result in
    let ds = p.whole ++ p.fraction in
    let counted : without_zeros ds ≡ c.without_zeros-counted.result.now = sym (c.without_zeros-counted.ensures ∙ ap without_zeros (c.deref.ensures.value ∙ c.in_ok-digits.ensures)) in
    let same : significant_of p.point (without_zeros ds) ≡ c.significant_of-significant.result.now = ap₂ significant_of (sym c.has_point.ensures) counted ∙ sym c.significant_of-significant.ensures in
    let digits = joined-digits p.whole p.fraction c.scan-numeral.ensures.digits.0 c.scan-numeral.ensures.digits.1 in
    subst (AllDigits 10) same (left_of p.point ds digits).digits

pub is_kept-requires-clause-positive : goal.is_kept-requires-clause-positive
is_kept-requires-clause-positive c =
    let p = c.scan-numeral.result in
    let ds = p.whole ++ p.fraction in
    let counted : without_zeros ds ≡ c.without_zeros-counted.result.now = sym (c.without_zeros-counted.ensures ∙ ap without_zeros (c.deref.ensures.value ∙ c.in_ok-digits.ensures)) in
    let same : significant_of p.point (without_zeros ds) ≡ c.significant_of-significant.result.now = ap₂ significant_of (sym c.has_point.ensures) counted ∙ sym c.significant_of-significant.ensures in
    let digits = joined-digits p.whole p.fraction c.scan-numeral.ensures.digits.0 c.scan-numeral.ensures.digits.1 in
    let other = eqb-false (length c.significant_of-significant.result.now) 0 (sym c.is_empty.ensures ∙ c.if-is_empty.false) in
    let some : 0 < length (significant_of p.point (without_zeros ds)) = subst (λ xs. 0 < length xs) (sym same) (omega (arith, other)) in
    subst (λ xs. 0 < digits_value 10 (take 1 xs)) same (first_positive ds _ (left_of p.point ds digits) some)
