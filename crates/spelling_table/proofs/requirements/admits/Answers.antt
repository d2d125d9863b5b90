use Rattle.std.proofs.Common.{rules}
use Rattle.spelling_table.proofs.requirements.admits.Goals as goal

pub returns-then-has_in : goal.returns-then-has_in
returns-then-has_in c = search rules

pub returns-else-has_in : goal.returns-else-has_in
returns-else-has_in c = search rules
