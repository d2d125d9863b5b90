use Rattle.unambiguity_laws.proofs.at_most_one_script_in.Goals as goal
use Rattle.unambiguity_laws.proofs.Steps.{one_script_in}

pub returns : goal.returns
returns c = one_script_in
