use Rattle.std.proofs.Common.{rules}
use Rattle.parser_tables.proofs.expression_starts.group_operand.Goals as goal

pub returns : goal.returns
returns c = search rules
