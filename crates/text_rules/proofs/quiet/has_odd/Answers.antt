use Rattle.std.proofs.Common.{ap}
use Rattle.std.specs.Prelude.{◌||◌}
use Rattle.text_rules.proofs.EvenTexts.{odd-end, odd-turn}
use Rattle.text_rules.proofs.quiet.has_odd.Goals as goal

pub loop-byte-preserved : goal.loop-byte-preserved
loop-byte-preserved c = odd-turn c.args.bytes.now c.loop-byte.byte-index _ c.loop-byte.found _ _ c.loop-byte-test.true (ap (λ b. c.loop-byte.found || b) c.is_odd-found.ensures) c.loop-byte.invariant

pub returns : goal.returns
returns c = odd-end c.args.bytes.now c.loop-byte.byte-index c.loop-byte.found _ c.loop-byte-test.false c.loop-byte.invariant
