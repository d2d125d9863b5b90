use Rattle.std.proofs.Common.{sym, ◌∙◌}
use Rattle.std.proofs.lemmas.Str.{IsCharBoundary-start}
use Rattle.regular_expressions.proofs.NameSteps.{is_name_begins, is_name_goes_on, is_name_refused, is_name_fails, is_name_ends}
use Rattle.regular_expressions.proofs.name.is_name.Goals as goal

pub loop-step-init : goal.loop-step-init
loop-step-init c = is_name_begins c.args.word.now (IsCharBoundary-start c.args.word.now c.utf8.word)

pub returns-in_default-name_character : goal.returns-in_default-name_character
returns-in_default-name_character c =
    sym (is_name_fails c.args.word.now c.loop-step.at c.in-Some.step.end c.in-Some.step.c c.loop-step.is_first c.loop-step.invariant c.in-Some.ensures.some c.in_default-name_character.ensures.none)

pub returns-then-not-stands_in_name : goal.returns-then-not-stands_in_name
returns-then-not-stands_in_name c =
    sym (is_name_refused c.args.word.now c.loop-step.at c.in-Some.step.end c.in-Some-name_character.character.end c.in-Some.step.c c.in-Some-name_character.character.value c.loop-step.is_first
    c.loop-step.invariant c.in-Some.ensures.some c.in-Some-name_character.ensures.some (sym c.stands_in_name.ensures ∙ c.if-not-stands_in_name.true))

pub loop-step-preserved : goal.loop-step-preserved
loop-step-preserved c =
    is_name_goes_on c.args.word.now c.loop-step.at c.in-Some.step.end c.in-Some-name_character.character.end c.in-Some.step.c c.in-Some-name_character.character.value c.loop-step.is_first
    c.loop-step.invariant c.in-Some.ensures.some c.in-Some-name_character.ensures.some (sym c.stands_in_name.ensures ∙ c.if-not-stands_in_name.false)

pub returns : goal.returns
returns c = sym (is_name_ends c.args.word.now c.loop-step.at c.loop-step.is_first c.loop-step.invariant c.in_default.ensures.none)
