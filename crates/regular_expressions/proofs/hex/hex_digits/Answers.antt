use Rattle.std.proofs.Common.{rules, ◌≡◌, subst, arith}
use Rattle.regular_expressions.specs.Characters.{hex_digits}
use Rattle.regular_expressions.specs.Scanned.{IsRead}
use Rattle.tokens.specs.Reading.{behind}
use Rattle.tokens.proofs.EscapeParts.{digits_begin, digits_go_on, digits_small}
use Rattle.regular_expressions.proofs.Escapes.{hex_some, hex_stops, hex_ends}
use Rattle.regular_expressions.proofs.hex.hex_digits.Goals as goal

pub loop-init : goal.loop-init
loop-init c = digits_begin c.args.text.now c.args.at c.requires.place

pub returns-in_default-clause-none : goal.returns-in_default-clause-none
returns-in_default-clause-none c =
    hex_ends c.args.text.now c.args.at c.loop.end c.loop.counter c.loop.value c.args.count c.loop.invariant (omega arith) c.in_default.ensures.none

pub returns-in_default-hex_digit-clause-none : goal.returns-in_default-hex_digit-clause-none
returns-in_default-hex_digit-clause-none c =
    hex_stops c.args.text.now c.args.at c.loop.end c.in-Some.step.end c.in-Some.step.c c.loop.counter c.loop.value c.args.count c.loop.invariant (omega arith) c.in-Some.ensures.some c.in_default-hex_digit.ensures.none

pub overflow_mul-value : goal.overflow_mul-value
overflow_mul-value c =
    let small = digits_small c.args.text.now c.args.at c.loop.end c.loop.counter c.loop.value c.loop.invariant (omega arith) in search rules

pub overflow_add-value : goal.overflow_add-value
overflow_add-value c =
    let small = digits_small c.args.text.now c.args.at c.loop.end c.loop.counter c.loop.value c.loop.invariant (omega arith) in search rules

pub loop-preserved : goal.loop-preserved
loop-preserved c =
    let d = c.in-Some-hex_digit.ensures.some in
    digits_go_on c.args.text.now c.args.at c.loop.end c.in-Some.step.end c.in-Some.step.c c.loop.counter c.loop.value c.in-Some-hex_digit.digit c.loop.invariant c.in-Some.ensures.some d.2 d.0

pub returns-clause-some : goal.returns-clause-some
returns-clause-some c =
    let e : c.loop.counter ≡ c.args.count = omega arith in
    subst (λ n. IsRead (hex_digits n (behind c.args.text.now c.args.at)) c.loop.value c.args.text.now c.args.at c.loop.end) e
    (hex_some c.args.text.now c.args.at c.loop.end c.loop.counter c.loop.value c.loop.invariant)

pub returns-clause-small : goal.returns-clause-small
returns-clause-small c = digits_small c.args.text.now c.args.at c.loop.end c.loop.counter c.loop.value c.loop.invariant (omega arith)
