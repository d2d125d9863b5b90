use Rattle.std.proofs.Common.{arith}
use Rattle.tokens.proofs.Names.{part_rows}
use Rattle.tokens.proofs.name.is_part_byte.Goals as goal

pub returns : goal.returns
returns c = part_rows c.args.byte (omega arith)
