use Rattle.std.proofs.Common.{rules}
use Rattle.early_errors.proofs.number_of.Goals as goal

pub returns-in-DuplicateLabel : goal.returns-in-DuplicateLabel
returns-in-DuplicateLabel c = search rules
