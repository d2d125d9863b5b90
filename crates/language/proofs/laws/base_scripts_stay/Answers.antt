use Rattle.language.proofs.texts.BaseScripts.{base_scripts_stay}
use Rattle.language.proofs.laws.base_scripts_stay.Goals as goal

pub returns : goal.returns
returns c = base_scripts_stay
