use Rattle.std.proofs.Common.{true, false, ◌∙◌}
use Rattle.early_errors.proofs.NameLoops.{among-turn, among-none}
use Rattle.early_errors.proofs.conflicts.is_among.Goals as goal

pub returns-then-eq : goal.returns-then-eq
returns-then-eq c = among-turn c.args.name.now c.args.names.now c.loop-other.other-index _ c.loop-other-test.true true c.if-eq.ensures ∙ c.loop-other.invariant

pub loop-other-preserved : goal.loop-other-preserved
loop-other-preserved c = among-turn c.args.name.now c.args.names.now c.loop-other.other-index _ c.loop-other-test.true false c.if-eq.ensures ∙ c.loop-other.invariant

pub returns : goal.returns
returns c = among-none c.args.name.now c.args.names.now c.loop-other.other-index c.loop-other-test.false ∙ c.loop-other.invariant
