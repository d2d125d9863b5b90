use Rattle.std.specs.Prelude.{◌<◌, length}
use Rattle.std.proofs.Common.{◌∙◌}
use Rattle.std.proofs.Common.{rules}
use Rattle.number_precision.proofs.LimbsLemmas.{value_below-set}
use Rattle.number_precision.proofs.big.Big.multiply.Goals as goal

pub returns-then-carry-gt0 : goal.returns-then-carry-gt0
returns-then-carry-gt0 c =
    let m = c.multiply_limbs-carry in
    let within : c.self.inside.len < length m.new.limbs = search rules in
    rw (← c.self.view_is) (value_below-set m.new.limbs _ m.result within ∙ m.ensures.value)
