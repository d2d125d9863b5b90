use Rattle.std.proofs.Common.{◌∙◌, ap₂}
use Rattle.std.specs.Prelude.{nat_lt}
use Rattle.std.proofs.Common.{arith}
use Rattle.number_precision.proofs.LimbsLemmas.{value_below_zeros}
use Rattle.number_precision.proofs.big.Big.is_less.Goals as goal

pub returns : goal.returns
returns c =
    let a = c.self.inside in
    let b = c.other.inside in
    c.are_less.ensures
    ∙ ap₂ nat_lt (value_below_zeros a.limbs a.len _ c.self.invariant.1 (omega arith) ∙ c.self.view_is) (value_below_zeros b.limbs b.len _ c.other.invariant.1 (omega arith) ∙ c.other.view_is)
