use Rattle.std.proofs.Common.{rules}
use Rattle.covers.proofs.shape.CoverShape.with_rest.Goals as goal

pub returns : goal.returns
returns c = search rules
