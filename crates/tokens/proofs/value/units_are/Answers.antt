use Rattle.std.proofs.Common.{sym, subst, arith, refl, take}
use Rattle.tokens.specs.Escaped.{units_of}
use Rattle.tokens.proofs.LiteralValues.{InUnits, units_begin, units_go_on}
use Rattle.tokens.proofs.WordMatches.{no_match, at_end}
use Rattle.tokens.proofs.value.units_are.Goals as goal

pub loop-step-init : goal.loop-step-init
loop-step-init c = (omega arith, units_begin c.args.text.now c.utf8.text)

pub returns-in_default-matched_by : goal.returns-in_default-matched_by
returns-in_default-matched_by c =
    let turned = units_go_on c.args.text.now c.loop-step.at c.in-Some.step.end c.in-Some.step.c c.in-Some-character_value.character_value (take c.loop-step.matched c.args.word.now) c.loop-step.invariant.1 c.in-Some.ensures.some c.in-Some-character_value.ensures.some in
    no_match c.args.text.now c.args.word.now (take c.loop-step.matched c.args.word.now) (units_of c.in-Some-character_value.character_value.value) c.in-Some-character_value.character_value.end c.loop-step.matched c.requires turned refl c.in_default-matched_by.ensures.none

pub loop-step-preserved : goal.loop-step-preserved
loop-step-preserved c =
    let turned = units_go_on c.args.text.now c.loop-step.at c.in-Some.step.end c.in-Some.step.c c.in-Some-character_value.character_value (take c.loop-step.matched c.args.word.now) c.loop-step.invariant.1 c.in-Some.ensures.some c.in-Some-character_value.ensures.some in
    (c.in-Some-matched_by.ensures.some.0, subst (InUnits c.args.text.now c.in-Some-character_value.character_value.end) (sym c.in-Some-matched_by.ensures.some.1) turned)

pub returns : goal.returns
returns c = at_end c.args.text.now c.args.word.now c.loop-step.at c.loop-step.matched c.loop-step.invariant.0 c.loop-step.invariant.1 c.in_default.ensures.none
