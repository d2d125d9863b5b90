use Rattle.std.proofs.Common.{◌≡◌, ◌^◌, ◌<◌, take}
use Rattle.std.specs.Str.Parse.{digits_value}
use Rattle.number_precision.proofs.precision.exponent_of.Given as goal

abbrev pub invariant-loop-index : goal.invariant-loop-index
invariant-loop-index l = (l.exponent ≡ digits_value 10 (take l.index l.digits)) × (l.exponent < 2 ^ 70)
