use Rattle.rules.proofs.Starts.{set-turn, set-end}
use Rattle.rules.proofs.left_alone.as_set.Goals as goal

pub loop-start-preserved : goal.loop-start-preserved
loop-start-preserved c = set-turn c.args.starts.now c.loop-start.start-index _ c.loop-start.set.keys c.insert.new.self.keys c.loop-start-test.true c.in_ok-insert.ensures.keys c.loop-start.invariant

pub returns : goal.returns
returns c = set-end c.args.starts.now c.loop-start.start-index c.loop-start.set.keys c.loop-start-test.false c.loop-start.invariant
