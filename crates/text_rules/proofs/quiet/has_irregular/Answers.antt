use Rattle.std.proofs.Common.{sym, ap, ◌∙◌}
use Rattle.std.specs.List.{list_any}
use Rattle.std.proofs.lemmas.Str.{IsCharBoundary-start}
use Rattle.text_rules.specs.Quiet.{is_odd}
use Rattle.text_rules.specs.Rows.{is_irregular}
use Rattle.tokens.proofs.TriviaSteps.{all_shrinks}
use Rattle.text_rules.proofs.EvenTexts.{even-regular}
use Rattle.text_rules.proofs.QuietTexts.{regular, over-run, over-step}
use Rattle.text_rules.proofs.quiet.has_irregular.Goals as goal

-- no byte may belong to irregular white space
pub returns-then-not-has_odd : goal.returns-then-not-has_odd
returns-then-not-has_odd c = sym (even-regular c.args.text.now c.utf8.text (sym (c.has_odd.ensures ∙ ap (list_any is_odd) c.as_bytes.ensures.value) ∙ c.if-not-has_odd.true))

pub quiet_end-at-requires : goal.quiet_end-at-requires
quiet_end-at-requires c = IsCharBoundary-start c.args.text.now c.utf8.text

pub loop-step-init : goal.loop-step-init
loop-step-init c = record {
  place = c.quiet_end-at.ensures.passed.place;
  found = over-run is_irregular regular c.args.text.now 0 c.quiet_end-at.result c.quiet_end-at.ensures;
}

pub loop-step-preserved : goal.loop-step-preserved
loop-step-preserved c = record {
  place = c.quiet_end-at-in-Some.ensures.passed.place;
  found = c.loop-step.invariant.found
      ∙ over-step is_irregular regular c.args.text.now c.loop-step.at c.in-Some.step.end c.quiet_end-at-in-Some.result c.in-Some.step.c c.in-Some.ensures.some (sym c.is_irregular.ensures ∙ c.if-is_irregular.false) c.quiet_end-at-in-Some.ensures;
}

pub loop-step-smaller : goal.loop-step-smaller
loop-step-smaller c = all_shrinks c.args.text.now c.loop-step.at c.in-Some.step.end c.quiet_end-at-in-Some.result c.in-Some.ensures.within.0 c.quiet_end-at-in-Some.ensures
