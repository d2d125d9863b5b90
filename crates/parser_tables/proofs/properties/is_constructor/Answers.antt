use Rattle.std.proofs.Common.{rules}
use Rattle.parser_tables.proofs.properties.is_constructor.Goals as goal

pub returns-in-StringLiteral : goal.returns-in-StringLiteral
returns-in-StringLiteral c = search rules
