use Rattle.std.proofs.Common.{sym, ◌∙◌}
use Rattle.tokens.proofs.TriviaSteps.{all_begins}
use Rattle.text_rules.specs.Quiet.{is_quiet}
use Rattle.text_rules.proofs.QuietTexts.{over_quiet}
use Rattle.text_rules.proofs.quiet.quiet_end.Goals as goal

pub loop-end-init : goal.loop-end-init
loop-end-init c = all_begins is_quiet c.args.text.now c.args.at c.requires

pub loop-end-preserved : goal.loop-end-preserved
loop-end-preserved c =
    over_quiet c.args.text.now c.as_bytes-bytes.result.now c.args.at c.loop-end.end c.utf8.text c.as_bytes-bytes.ensures.value c.loop-end.invariant c.loop-end-test.true
    (sym c.is_quiet.ensures ∙ c.if-is_quiet.true)
