use Rattle.std.proofs.Common.{sym, ◌∙◌, arith}
use Rattle.tokens.specs.Alphabet.{is_identifier_part}
use Rattle.tokens.proofs.TriviaSteps.{all_begins}
use Rattle.tokens.proofs.Names.{over_part, parts_stop}
use Rattle.tokens.proofs.name.ascii_parts_end.Goals as goal

pub loop-end-init : goal.loop-end-init
loop-end-init c = all_begins is_identifier_part c.args.text.now c.args.at c.requires

pub loop-end-preserved : goal.loop-end-preserved
loop-end-preserved c =
    over_part c.args.text.now c.as_bytes-bytes.result.now c.args.at c.loop-end.end c.utf8.text c.as_bytes-bytes.ensures.value c.loop-end.invariant c.loop-end-test.true
    (sym c.is_part_byte.ensures ∙ c.if-is_part_byte.true)

pub returns-else-is_part_byte-clause-stops : goal.returns-else-is_part_byte-clause-stops
returns-else-is_part_byte-clause-stops c =
    parts_stop c.args.text.now c.as_bytes-bytes.result.now c.loop-end.end c.utf8.text c.as_bytes-bytes.ensures.value c.loop-end.invariant.passed.place (λ lt. sym c.is_part_byte.ensures ∙ c.if-is_part_byte.false)

pub returns-after-loop-end-clause-stops : goal.returns-after-loop-end-clause-stops
returns-after-loop-end-clause-stops c =
    parts_stop c.args.text.now c.as_bytes-bytes.result.now c.loop-end.end c.utf8.text c.as_bytes-bytes.ensures.value c.loop-end.invariant.passed.place (λ lt. absurd (omega arith))
