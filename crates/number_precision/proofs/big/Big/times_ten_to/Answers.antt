use Rattle.std.proofs.Common.{arith}
use Rattle.number_precision.proofs.LimbsLemmas.{power_step}
use Rattle.number_precision.proofs.big.Big.times_ten_to.Goals as goal

pub multiply-requires : goal.multiply-requires
multiply-requires c = omega (arith, power_step 10 19 c.loop-left.self c.loop-left.left (omega arith) (omega arith))

pub loop-left-preserved : goal.loop-left-preserved
loop-left-preserved c = rw c.multiply.ensures (omega (arith, power_step 10 19 c.loop-left.self c.loop-left.left (omega arith) (omega arith)))
