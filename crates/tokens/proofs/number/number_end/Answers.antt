use Rattle.std.proofs.Common.{◌≡◌, Bool, true, false, not, ◌&&◌, ◌||◌, sym, ap, ◌∙◌, arith}
use Rattle.std.proofs.lemmas.Bool.Decides.{nat_tests}
use Rattle.tokens.specs.Alphabet.{is_decimal_digit, is_identifier_start}
use Rattle.tokens.specs.States.{is_dead, numeral_of}
use Rattle.tokens.proofs.Numerals.{number_starts, number_goes_on, number_found, number_found_end, no_number, no_number_end}
use Rattle.tokens.proofs.number.number_end.Goals as goal

pub loop-step-init : goal.loop-step-init
loop-step-init c = number_starts c.args.text.now c.args.at c.requires

first : (a b : Bool) → (a && not b) ≡ true → a ≡ true
first a b h = grind (arith, nat_tests)

second : (a b : Bool) → (a && not b) ≡ true → b ≡ false
second a b h = grind (arith, nat_tests)

pub returns-then-is_complete-is_bad_end-clause-some : goal.returns-then-is_complete-is_bad_end-clause-some
returns-then-is_complete-is_bad_end-clause-some c =
    number_found c.args.text.now c.args.at c.loop-step.end c.in-Some.step.end c.in-Some.step.c (numeral_of c.loop-step.state) c.loop-step.invariant c.in-Some.ensures.some
    (ap is_dead (sym c.next_number_state-next.ensures) ∙ sym c.is_dead.ensures ∙ c.if-is_dead.true)
    (sym c.is_complete.ensures ∙ first c.is_complete.result c.is_bad_end.result c.if-is_complete-is_bad_end.true)
    (sym c.is_bad_end.ensures ∙ second c.is_complete.result c.is_bad_end.result c.if-is_complete-is_bad_end.true)

pub returns-else-is_complete-is_bad_end-clause-none : goal.returns-else-is_complete-is_bad_end-clause-none
returns-else-is_complete-is_bad_end-clause-none c =
    no_number c.args.text.now c.args.at c.loop-step.end c.in-Some.step.end c.in-Some.step.c (numeral_of c.loop-step.state) c.loop-step.invariant c.in-Some.ensures.some
    (ap is_dead (sym c.next_number_state-next.ensures) ∙ sym c.is_dead.ensures ∙ c.if-is_dead.true)
    (ap (λ a. a && not (is_identifier_start c.in-Some.step.c || is_decimal_digit c.in-Some.step.c)) (sym c.is_complete.ensures)
    ∙ ap (λ b. c.is_complete.result && not b) (sym c.is_bad_end.ensures) ∙ c.if-is_complete-is_bad_end.false)

pub loop-step-preserved : goal.loop-step-preserved
loop-step-preserved c =
    number_goes_on c.args.text.now c.args.at c.loop-step.end c.in-Some.step.end c.in-Some.step.c (numeral_of c.loop-step.state) (numeral_of c.next_number_state-next.result)
    c.loop-step.invariant c.in-Some.ensures.some c.next_number_state-next.ensures (sym c.is_dead.ensures ∙ c.if-is_dead.false)

pub returns-then-is_complete-clause-some : goal.returns-then-is_complete-clause-some
returns-then-is_complete-clause-some c =
    number_found_end c.args.text.now c.args.at c.loop-step.end (numeral_of c.loop-step.state) c.loop-step.invariant c.in_default.ensures.none (sym c.is_complete-2.ensures ∙ c.if-is_complete.true)

pub returns-else-is_complete-clause-none : goal.returns-else-is_complete-clause-none
returns-else-is_complete-clause-none c =
    no_number_end c.args.text.now c.args.at c.loop-step.end (numeral_of c.loop-step.state) c.loop-step.invariant c.in_default.ensures.none (sym c.is_complete-2.ensures ∙ c.if-is_complete.false)
