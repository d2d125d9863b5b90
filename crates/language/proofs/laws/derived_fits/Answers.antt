use Rattle.language.proofs.layout.WrappedRows.{text_fits}
use Rattle.language.proofs.laws.derived_fits.Goals as goal

pub returns : goal.returns
returns c = λ text n P d. text_fits text n P d
