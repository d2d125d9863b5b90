use Rattle.std.proofs.Common.{◌≡◌, ◌==◌, ◌||◌, true, false, sym, ap, ◌∙◌}
use Rattle.tokens.proofs.StringScans.{string_begins, string_goes_on, string_closes, string_open, string_broken, string_bad}
use Rattle.tokens.proofs.PlainRuns.{string_plain}
use Rattle.tokens.proofs.string.closed_end.Goals as goal

pub loop-step-init : goal.loop-step-init
loop-step-init c =
    string_plain c.args.quote c.args.text.now c.args.at c.args.at c.plain_end-end.result c.requires.quote (string_begins c.args.quote c.args.text.now c.args.at c.requires.place) c.plain_end-end.ensures

pub returns-then-step-quote-clause-some : goal.returns-then-step-quote-clause-some
returns-then-step-quote-clause-some c =
    string_closes c.args.quote c.args.text.now c.args.at c.loop-step.end c.in-Some.step.end c.in-Some.step.c c.loop-step.invariant c.in-Some.ensures.some c.if-step-quote.true

pub returns-then-ends_line-clause-none : goal.returns-then-ends_line-clause-none
returns-then-ends_line-clause-none c =
    string_broken c.args.quote c.args.text.now c.args.at c.loop-step.end c.in-Some.step.end c.in-Some.step.c c.loop-step.invariant c.in-Some.ensures.some c.if-step-quote.false
    (sym c.ends_line.ensures ∙ c.if-ends_line.true)

pub returns-in_default-character_value-clause-none : goal.returns-in_default-character_value-clause-none
returns-in_default-character_value-clause-none c =
    string_bad c.args.quote c.args.text.now c.args.at c.loop-step.end c.in-Some.step.end c.in-Some.step.c c.loop-step.invariant c.in-Some.ensures.some c.if-step-quote.false c.in_default-character_value.ensures.none

pub loop-step-preserved : goal.loop-step-preserved
loop-step-preserved c =
    string_plain c.args.quote c.args.text.now c.args.at c.in-Some-character_value.character_value.end c.plain_end-end-in-Some.result c.requires.quote
    (string_goes_on c.args.quote c.args.text.now c.args.at c.loop-step.end c.in-Some.step.end c.in-Some.step.c c.in-Some-character_value.character_value c.loop-step.invariant c.in-Some.ensures.some
    c.if-step-quote.false
    (λ e. (let z : true ≡ false = sym (ap (λ x. (x == 0xA) || (x == 0xD)) e) ∙ sym c.ends_line.ensures ∙ c.if-ends_line.false in cc))
    (λ e. (let z : true ≡ false = sym (ap (λ x. (x == 0xA) || (x == 0xD)) e) ∙ sym c.ends_line.ensures ∙ c.if-ends_line.false in cc)) c.in-Some-character_value.ensures.some)
    c.plain_end-end-in-Some.ensures

pub returns-clause-none : goal.returns-clause-none
returns-clause-none c = string_open c.args.quote c.args.text.now c.args.at c.loop-step.end c.loop-step.invariant c.in_default.ensures.none
