use Rattle.std.proofs.Common.{rules}
use Rattle.parser_tables.proofs.statements.start_of_declaration.Goals as goal

pub returns-in_default : goal.returns-in_default
returns-in_default c = search rules
