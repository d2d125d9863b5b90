use Rattle.std.proofs.Common.{sym, ◌∙◌}
use Rattle.tokens.specs.Closers.{is_plain}
use Rattle.tokens.proofs.TriviaSteps.{all_begins}
use Rattle.tokens.proofs.PlainRuns.{over_plain}
use Rattle.tokens.proofs.plain.plain_end.Goals as goal

pub loop-end-init : goal.loop-end-init
loop-end-init c = all_begins is_plain c.args.text.now c.args.at c.requires

pub loop-end-preserved : goal.loop-end-preserved
loop-end-preserved c =
    over_plain c.args.text.now c.as_bytes-bytes.result.now c.args.at c.loop-end.end c.utf8.text c.as_bytes-bytes.ensures.value c.loop-end.invariant c.loop-end-test.true
    (sym c.is_plain_byte.ensures ∙ c.if-is_plain_byte.true)
