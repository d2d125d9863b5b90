use Rattle.std.proofs.Common.{sym, ◌∙◌}
use Rattle.regular_expressions.specs.PropertyNames.{is_property_character}
use Rattle.tokens.proofs.TriviaSteps.{all_begins, all_goes_on}
use Rattle.regular_expressions.proofs.property.property_end.Goals as goal

pub loop-step-init : goal.loop-step-init
loop-step-init c = all_begins is_property_character c.args.text.now c.args.at c.requires

pub loop-step-preserved : goal.loop-step-preserved
loop-step-preserved c =
    all_goes_on is_property_character c.args.text.now c.args.at c.loop-step.end c.in-Some.step.end c.in-Some.step.c c.loop-step.invariant c.in-Some.ensures.some
    (sym c.is_property_character.ensures ∙ c.if-not-is_property_character.false)
