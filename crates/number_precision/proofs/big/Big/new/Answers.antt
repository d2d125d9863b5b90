use Rattle.std.specs.Prelude.{replicate}
use Rattle.std.proofs.Common.{arith}
use Rattle.number_precision.proofs.LimbsLemmas.{value_below-zero, word_fits, zeros}
use Rattle.number_precision.proofs.big.Big.new.Goals as goal

pub invariant_of-big : goal.invariant_of-big
invariant_of-big c = (omega arith, λ i h. zeros 74 i)

pub multiply-requires : goal.multiply-requires
multiply-requires c = omega (arith, word_fits c.args.n c.ranges.n.fits, value_below-zero (replicate 74 0))

pub returns : goal.returns
returns c = omega (arith, value_below-zero (replicate 74 0))
