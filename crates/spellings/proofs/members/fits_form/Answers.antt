use Rattle.std.proofs.Common.{rules}
use Rattle.spellings.proofs.members.fits_form.Goals as goal

pub returns-in-Method : goal.returns-in-Method
returns-in-Method c = search rules
