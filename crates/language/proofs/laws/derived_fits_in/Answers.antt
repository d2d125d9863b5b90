use Rattle.language.proofs.layout.WrappedRows.{text_fits_in}
use Rattle.language.proofs.laws.derived_fits_in.Goals as goal

pub returns : goal.returns
returns c = text_fits_in
