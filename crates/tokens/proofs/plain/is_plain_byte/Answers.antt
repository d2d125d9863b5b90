use Rattle.std.proofs.Common.{arith}
use Rattle.tokens.proofs.PlainRuns.{plain_rows}
use Rattle.tokens.proofs.plain.is_plain_byte.Goals as goal

pub returns : goal.returns
returns c = plain_rows c.args.byte (omega arith)
