use Rattle.std.proofs.Common.{rules}
use Rattle.parser_tables.proofs.symbol_lists.statement_symbols.Goals as goal

pub returns-in-If : goal.returns-in-If
returns-in-If c = search rules
