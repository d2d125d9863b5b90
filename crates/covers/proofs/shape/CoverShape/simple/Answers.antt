use Rattle.std.proofs.Common.{rules}
use Rattle.covers.proofs.shape.CoverShape.simple.Goals as goal

pub returns-in-true : goal.returns-in-true
returns-in-true c = search rules
