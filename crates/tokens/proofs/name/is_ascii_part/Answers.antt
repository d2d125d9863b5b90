use Rattle.std.proofs.Common.{arith}
use Rattle.tokens.proofs.Names.{part_rows}
use Rattle.tokens.proofs.name.is_ascii_part.Goals as goal

pub returns : goal.returns
returns c =
    let low = c.requires in
    part_rows c.args.c (omega arith)
