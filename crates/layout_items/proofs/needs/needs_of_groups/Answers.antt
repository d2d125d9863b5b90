use Rattle.std.proofs.Common.{arith}
use Rattle.layout_items.proofs.PassSteps.{passed_back}
use Rattle.layout_items.proofs.needs.needs_of_groups.Goals as goal

pub loop-at-preserved : goal.loop-at-preserved
loop-at-preserved c = record {
  within = omega (arith, c.loop-at.invariant.within);
  passed = passed_back c.args.items.now c.loop-at.at _ c.loop-at.measures c.pass.new.self c.loop-at-test.true c.loop-at.invariant.within c.requires c.loop-at.invariant.passed c.in_ok-pass.ensures;
}
