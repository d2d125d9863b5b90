use Rattle.unambiguity_laws.proofs.at_most_one_script.Goals as goal
use Rattle.unambiguity_laws.proofs.Steps.{one_script}

pub returns : goal.returns
returns c = one_script
