use Rattle.std.proofs.Common.{[], ◌∷◌, IsFalse, refl, sym, subst, arith}
use Rattle.std.proofs.lemmas.Bool.{ne_eqb}
use Rattle.tokens.specs.Alphabet.{one_of, begins_with}
use Rattle.tokens.specs.Scanned.{Passed}
use Rattle.tokens.proofs.EscapeParts.{in_digits_begin, in_digits_go_on, InDigits, AllDigits, digits_stop, digits_end}
use Rattle.regular_expressions.proofs.Escapes.{point_empty, point_large, point_open, point_closed}
use Rattle.regular_expressions.proofs.hex.braced.Goals as goal
use Rattle.regular_expressions.proofs.hex.braced.Goals.{in-Some+in_default-hex_digit, in_default, then-end-at-via-then-end-at, then-end-at-via-else-end-at+then-value-gt1114111}

pub loop-step-init : goal.loop-step-init
loop-step-init c = in_digits_begin c.args.text.now c.args.at c.requires

pub loop-step-preserved : goal.loop-step-preserved
loop-step-preserved c =
    let d = c.in-Some-hex_digit.ensures.some in
    subst (InDigits c.args.text.now c.args.at c.in-Some.step.end) (sym c.min-value.ensures)
    (in_digits_go_on c.args.text.now c.args.at c.loop-step.end c.in-Some.step.end c.in-Some.step.c c.loop-step.value c.in-Some-hex_digit.digit c.loop-step.invariant c.in-Some.ensures.some d.2 d.0)

pub returns-then-end-at-clause-none : goal.returns-then-end-at-clause-none
returns-then-end-at-clause-none c =
    let h : AllDigits c.args.text.now c.args.at c.loop-step.end c.loop-step.value = elim c.match-char_at.branch [
      | in-Some+in_default-hex_digit w ↦ digits_stop c.args.text.now c.args.at c.loop-step.end w.in-Some.step.end w.in-Some.step.c c.loop-step.value c.loop-step.invariant w.in-Some.ensures.some w.in_default-hex_digit.ensures.none
      | in_default w ↦ digits_end c.args.text.now c.args.at c.loop-step.end c.loop-step.value c.loop-step.invariant w.in_default.ensures.none
    ] in
    elim c.then-end-at.branch [
      | then-end-at-via-then-end-at w ↦ point_empty c.args.text.now c.args.at c.loop-step.value (subst (λ e. AllDigits c.args.text.now c.args.at e c.loop-step.value) w.if-end-at.true h)
      | then-end-at-via-else-end-at+then-value-gt1114111 w ↦ point_large c.args.text.now c.args.at c.loop-step.end c.loop-step.value h w.if-value-gt1114111.true
    ]

pub returns-in_default-char_at-clause-none : goal.returns-in_default-char_at-clause-none
returns-in_default-char_at-clause-none c =
    let h : AllDigits c.args.text.now c.args.at c.loop-step.end c.loop-step.value = elim c.match-char_at.branch [
      | in-Some+in_default-hex_digit w ↦ digits_stop c.args.text.now c.args.at c.loop-step.end w.in-Some.step.end w.in-Some.step.c c.loop-step.value c.loop-step.invariant w.in-Some.ensures.some w.in_default-hex_digit.ensures.none
      | in_default w ↦ digits_end c.args.text.now c.args.at c.loop-step.end c.loop-step.value c.loop-step.invariant w.in_default.ensures.none
    ] in
    point_open c.args.text.now c.args.at c.loop-step.end c.loop-step.value h (subst (λ x. IsFalse (begins_with (one_of "}") x)) (sym c.in_default-char_at.ensures.none) refl)

pub returns-then-close-ne125-clause-none : goal.returns-then-close-ne125-clause-none
returns-then-close-ne125-clause-none c =
    let h : AllDigits c.args.text.now c.args.at c.loop-step.end c.loop-step.value = elim c.match-char_at.branch [
      | in-Some+in_default-hex_digit w ↦ digits_stop c.args.text.now c.args.at c.loop-step.end w.in-Some.step.end w.in-Some.step.c c.loop-step.value c.loop-step.invariant w.in-Some.ensures.some w.in_default-hex_digit.ensures.none
      | in_default w ↦ digits_end c.args.text.now c.args.at c.loop-step.end c.loop-step.value c.loop-step.invariant w.in_default.ensures.none
    ] in
    let p = c.in-Some-char_at.ensures.some in
    point_open c.args.text.now c.args.at c.loop-step.end c.loop-step.value h (subst (λ x. IsFalse (begins_with (one_of "}") x)) (sym p.split) (ne_eqb c.in-Some-char_at.close.c 0x7D c.if-close-ne125.true))

pub returns-clause-some : goal.returns-clause-some
returns-clause-some c =
    let h : AllDigits c.args.text.now c.args.at c.loop-step.end c.loop-step.value = elim c.match-char_at.branch [
      | in-Some+in_default-hex_digit w ↦ digits_stop c.args.text.now c.args.at c.loop-step.end w.in-Some.step.end w.in-Some.step.c c.loop-step.value c.loop-step.invariant w.in-Some.ensures.some w.in_default-hex_digit.ensures.none
      | in_default w ↦ digits_end c.args.text.now c.args.at c.loop-step.end c.loop-step.value c.loop-step.invariant w.in_default.ensures.none
    ] in
    point_closed c.args.text.now c.args.at c.loop-step.end c.in-Some-char_at.close.end c.loop-step.value h c.if-end-at.false (omega arith)
    (subst (λ x. Passed c.args.text.now c.loop-step.end c.in-Some-char_at.close.end (x ∷ [])) c.if-close-ne125.false c.in-Some-char_at.ensures.some)
