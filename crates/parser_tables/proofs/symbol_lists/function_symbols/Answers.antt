use Rattle.std.proofs.Common.{rules}
use Rattle.parser_tables.proofs.symbol_lists.function_symbols.Goals as goal

pub returns-in-NoParameter : goal.returns-in-NoParameter
returns-in-NoParameter c = search rules
