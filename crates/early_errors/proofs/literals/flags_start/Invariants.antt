use Rattle.std.proofs.Common.{◌≡◌, ◌≤◌, [], drop, length}
use Rattle.early_errors.specs.Literals.{flags_part}
use Rattle.early_errors.proofs.literals.flags_start.Given as goal

abbrev pub invariant-loop-index : goal.invariant-loop-index
invariant-loop-index l = record {
  flags : flags_part (drop l.start l.bytes) (drop l.index l.bytes) ≡ flags_part [] l.bytes;
  within : l.start ≤ length l.bytes;
}
