use Rattle.std.proofs.Common.{rules}
use Rattle.grammar.proofs.literals.is_literal.Goals as goal

pub returns-in-IdentifierName : goal.returns-in-IdentifierName
returns-in-IdentifierName c = search rules
