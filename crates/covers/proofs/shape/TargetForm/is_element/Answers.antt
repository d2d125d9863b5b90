use Rattle.std.proofs.Common.{rules}
use Rattle.covers.proofs.shape.TargetForm.is_element.Goals as goal

pub returns : goal.returns
returns c = search rules
