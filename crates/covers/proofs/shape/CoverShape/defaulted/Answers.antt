use Rattle.std.proofs.Common.{rules}
use Rattle.covers.proofs.shape.CoverShape.defaulted.Goals as goal

pub returns-in-true : goal.returns-in-true
returns-in-true c = search rules
