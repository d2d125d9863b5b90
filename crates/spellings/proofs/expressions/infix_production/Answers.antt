use Rattle.std.proofs.Common.{rules}
use Rattle.spellings.proofs.expressions.infix_production.Goals as goal

pub returns : goal.returns
returns c = search rules
