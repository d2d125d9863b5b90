use Rattle.std.proofs.Common.{◌≡◌, drop}
use Rattle.number_precision.specs.Digits.{without_zeros}
use Rattle.number_precision.proofs.digits.without_zeros.Given as goal

abbrev pub invariant-loop-index : goal.invariant-loop-index
invariant-loop-index l = without_zeros (drop l.index l.digits) ≡ without_zeros l.digits
