use Rattle.std.specs.Prelude.{◌<◌, length}
use Rattle.std.proofs.Common.{refl, ◌∙◌}
use Rattle.std.proofs.Common.{arith}
use Rattle.std.proofs.Common.{rules}
use Rattle.std.proofs.Common.{get_or-set_other}
use Rattle.std.proofs.lemmas.Nat.{and_mask}
use Rattle.number_precision.proofs.LimbsLemmas.{value_below-zero, value_below-suc, value_below-set, limb_weight-zero, limb_weight-suc, mul_add_step}
use Rattle.number_precision.proofs.big.multiply_limbs.Goals as goal

pub loop-i-init : goal.loop-i-init
loop-i-init c = (rw (value_below-zero, limb_weight-zero) (omega arith), λ k h. refl)

pub loop-i-preserved : goal.loop-i-preserved
loop-i-preserved c =
    let l = c.loop-i in
    let within : l.i < length l.limbs = search rules in
    let same = l.invariant.1 l.i (omega arith) in (
      rw (and_mask _ 64, value_below-set l.limbs l.i _ within, value_below-suc c.args.limbs.now l.i, limb_weight-suc, ← same) (mul_add_step _ _ _ _ _ _ _ l.invariant.0),
      λ k h. get_or-set_other l.limbs l.i k _ 0 (λ e. omega arith) ∙ l.invariant.1 k (omega arith),
    )
