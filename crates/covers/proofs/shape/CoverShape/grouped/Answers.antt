use Rattle.std.proofs.Common.{rules}
use Rattle.covers.proofs.shape.CoverShape.grouped.Goals as goal

pub returns : goal.returns
returns c = search rules
