use Rattle.unambiguity_laws.proofs.short_scripts_fit.Goals as goal
use Rattle.unambiguity_laws.proofs.heights.Heights.{short_fits}

pub returns : goal.returns
returns c = short_fits
