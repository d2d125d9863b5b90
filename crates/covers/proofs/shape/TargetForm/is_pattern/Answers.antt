use Rattle.std.proofs.Common.{rules}
use Rattle.covers.proofs.shape.TargetForm.is_pattern.Goals as goal

pub returns-in_default : goal.returns-in_default
returns-in_default c = search rules
