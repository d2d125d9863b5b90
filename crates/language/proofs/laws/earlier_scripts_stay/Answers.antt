use Rattle.language.proofs.texts.EarlierScripts.{earlier_scripts_stay}
use Rattle.language.proofs.laws.earlier_scripts_stay.Goals as goal

pub returns : goal.returns
returns c = earlier_scripts_stay
