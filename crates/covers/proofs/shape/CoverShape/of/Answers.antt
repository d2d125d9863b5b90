use Rattle.std.proofs.Common.{rules}
use Rattle.covers.proofs.shape.CoverShape.of.Goals as goal

pub returns-in-Identifier : goal.returns-in-Identifier
returns-in-Identifier c = search rules
