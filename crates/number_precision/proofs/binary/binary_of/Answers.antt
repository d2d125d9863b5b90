use Rattle.std.proofs.Common.{◌-◌, ◌*◌, ◌/◌, ◌%◌, ◌^◌, arith, sym, subst, ◌∙◌}
use Rattle.std.specs.Prelude.{to_bits}
use Rattle.std.specs.Float.{binary64}
use Rattle.std.specs.Float.Ieee.Digits.{Equals}
use Rattle.std.proofs.lemmas.Float.{T_from_true}
use Rattle.std.proofs.Math.Nat.{add_comm}
use Rattle.number_precision.proofs.FloatDigits.{digits_of}
use Rattle.number_precision.proofs.binary.binary_of.Goals as goal

pub returns-then-field-eq0-clause-finite : goal.returns-then-field-eq0-clause-finite
returns-then-field-eq0-clause-finite c =
    let known = digits_of c.args.value (T_from_true _ c.well_formed.0.1) (sym c.is_finite.ensures.value ∙ c.if-not-is_finite.false) in
    known.small c.if-field-eq0.true

pub returns-else-field-eq0-clause-finite : goal.returns-else-field-eq0-clause-finite
returns-else-field-eq0-clause-finite c =
    let known = digits_of c.args.value (T_from_true _ c.well_formed.0.1) (sym c.is_finite.ensures.value ∙ c.if-not-is_finite.false) in
    let b = to_bits binary64 c.args.value in
    subst (λ n. Equals c.args.value (n * 2 ^ (b % 2 ^ 63 / 2 ^ 52 - 1)) (2 ^ 1074)) (add_comm (2 ^ 52) (b % 2 ^ 52)) (known.other c.if-field-eq0.false)

pub returns-else-field-eq0-clause-small : goal.returns-else-field-eq0-clause-small
returns-else-field-eq0-clause-small c =
    let known = digits_of c.args.value (T_from_true _ c.well_formed.0.1) (sym c.is_finite.ensures.value ∙ c.if-not-is_finite.false) in
    let other = known.not_ones in
    (omega arith, omega arith)
