use Rattle.std.proofs.Common.{◌∙◌}
use Rattle.early_errors.proofs.Literally.{holds-any}
use Rattle.early_errors.proofs.literals.holds.Goals as goal

pub returns : goal.returns
returns c = c.contains.ensures.value ∙ holds-any c.args.bytes.now c.args.byte
