use Rattle.std.proofs.Common.{rules}
use Rattle.parser_tables.proofs.operand.Operand.target.Goals as goal

pub returns : goal.returns
returns c = search rules
