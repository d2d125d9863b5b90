use Rattle.language.proofs.texts.EarlierScripts.{earlier_scripts_stay}
use Rattle.unambiguity_laws.proofs.EarlierTrees.{spells_none_later}
use Rattle.unambiguity_laws.proofs.Steps.{one_script}
use Rattle.unambiguity_laws.proofs.earlier_script_is_the_one.Goals as goal

pub returns : goal.returns
returns c = λ o text n m P Q u before none_later now. one_script text n m P Q (spells_none_later _ _ _ before.1) (o, earlier_scripts_stay o text n P u before) none_later now
