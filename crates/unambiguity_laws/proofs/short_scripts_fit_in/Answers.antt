use Rattle.unambiguity_laws.proofs.short_scripts_fit_in.Goals as goal
use Rattle.unambiguity_laws.proofs.heights.Heights.{short_fits_in}

pub returns : goal.returns
returns c = short_fits_in
