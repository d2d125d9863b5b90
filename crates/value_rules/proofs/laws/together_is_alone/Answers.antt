use Rattle.value_rules.proofs.Together.{together}
use Rattle.value_rules.proofs.laws.together_is_alone.Goals as goal

pub returns : goal.returns
returns c = together
