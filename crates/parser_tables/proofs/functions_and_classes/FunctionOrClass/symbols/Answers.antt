use Rattle.std.proofs.Common.{rules}
use Rattle.parser_tables.proofs.functions_and_classes.FunctionOrClass.symbols.Goals as goal

pub returns-in-Method-Set : goal.returns-in-Method-Set
returns-in-Method-Set c = search rules
