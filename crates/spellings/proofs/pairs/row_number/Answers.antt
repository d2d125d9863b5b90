use Rattle.std.proofs.Common.{rules}
use Rattle.spellings.proofs.pairs.row_number.Goals as goal

pub returns-then-index-starts : goal.returns-then-index-starts
returns-then-index-starts c = search rules
