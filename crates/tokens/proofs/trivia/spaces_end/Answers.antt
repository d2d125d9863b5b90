use Rattle.std.proofs.Common.{sym, ◌∙◌}
use Rattle.tokens.proofs.TriviaSteps.{gap_begins, over_space}
use Rattle.tokens.proofs.trivia.spaces_end.Goals as goal

pub loop-end-init : goal.loop-end-init
loop-end-init c = gap_begins c.args.text.now c.args.at c.requires

pub loop-end-preserved : goal.loop-end-preserved
loop-end-preserved c =
    over_space c.args.text.now c.as_bytes-bytes.result.now c.args.at c.loop-end.end c.utf8.text c.as_bytes-bytes.ensures.value c.loop-end.invariant c.loop-end-test.true
    (sym c.is_space_byte.ensures ∙ c.if-is_space_byte.true)
