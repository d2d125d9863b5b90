use Rattle.std.proofs.Common.{◌∙◌}
use Rattle.spelling_table.specs.Outlines.{role_of}
use Rattle.spelling_table.proofs.PositionRequirements.{asked}
use Rattle.spelling_table.proofs.requirements.fits.Goals as goal

pub returns : goal.returns
returns c = c.admits.ensures ∙ asked (role_of c.args.position) c.args.outline
