use Rattle.std.proofs.Common.{rules}
use Rattle.parser_tables.proofs.expression_starts.grouping_pair.Goals as goal

pub returns : goal.returns
returns c = search rules
