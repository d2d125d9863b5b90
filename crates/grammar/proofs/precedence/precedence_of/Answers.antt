use Rattle.std.proofs.Common.{rules}
use Rattle.grammar.proofs.precedence.precedence_of.Goals as goal

pub returns-in-Call : goal.returns-in-Call
returns-in-Call c = search rules
