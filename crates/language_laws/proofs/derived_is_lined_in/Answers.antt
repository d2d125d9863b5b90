use Rattle.language_laws.proofs.EachLanguage.{derived_lined_in}
use Rattle.language_laws.proofs.derived_is_lined_in.Goals as goal

pub returns : goal.returns
returns c = derived_lined_in
