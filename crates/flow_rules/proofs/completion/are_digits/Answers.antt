use Rattle.std.proofs.Common.{sym, ◌∙◌}
use Rattle.flow_rules.proofs.TextLemmas.{digits-not, digits-turn}
use Rattle.flow_rules.proofs.completion.are_digits.Goals as goal

pub returns-then-not-is_digit : goal.returns-then-not-is_digit
returns-then-not-is_digit c = digits-not c.args.bytes.now c.loop-byte.byte-index _ _ c.loop-byte.invariant c.loop-byte-test.true (sym c.is_digit.ensures ∙ c.if-not-is_digit.true)

pub loop-byte-preserved : goal.loop-byte-preserved
loop-byte-preserved c = digits-turn c.args.bytes.now c.loop-byte.byte-index _ _ c.loop-byte.invariant c.loop-byte-test.true (sym c.is_digit.ensures ∙ c.if-not-is_digit.false)
