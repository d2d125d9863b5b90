use Rattle.std.proofs.Common.{rules}
use Rattle.early_errors.proofs.found.earlier_error.Goals as goal

pub returns-then-first_number-second_number : goal.returns-then-first_number-second_number
returns-then-first_number-second_number c = search rules
