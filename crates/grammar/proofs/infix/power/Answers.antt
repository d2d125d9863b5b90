use Rattle.std.proofs.Common.{rules}
use Rattle.grammar.proofs.infix.power.Goals as goal

pub returns : goal.returns
returns c = search rules
