use Rattle.std.proofs.Common.{rules}
use Rattle.parser_tables.proofs.operators.cannot_continue.Goals as goal

pub returns-then-not-accepts_rank : goal.returns-then-not-accepts_rank
returns-then-not-accepts_rank c = search rules

pub returns-else-not-accepts_rank : goal.returns-else-not-accepts_rank
returns-else-not-accepts_rank c = search rules
