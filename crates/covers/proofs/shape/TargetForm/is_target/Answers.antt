use Rattle.std.proofs.Common.{rules}
use Rattle.covers.proofs.shape.TargetForm.is_target.Goals as goal

pub returns-in-Target : goal.returns-in-Target
returns-in-Target c = search rules
