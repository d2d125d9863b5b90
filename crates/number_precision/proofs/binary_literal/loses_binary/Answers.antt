use Rattle.std.proofs.Common.{◌≤◌, length, sym, subst}
use Rattle.number_precision.proofs.DigitLists.{trimmed-shorter}
use Rattle.number_precision.proofs.binary_literal.loses_binary.Goals as goal

pub overflow_sub-zeros : goal.overflow_sub-zeros
overflow_sub-zeros c = subst (λ ds. length ds ≤ length c.without_zeros-counted.result.now) (sym c.trimmed-kept.ensures) (trimmed-shorter c.without_zeros-counted.result.now)
