use Rattle.std.proofs.Common.{rules}
use Rattle.spellings.proofs.expressions.identifier_production.Goals as goal

pub returns : goal.returns
returns c = search rules
