use Rattle.language.proofs.laws.base_is_a_language.Goals as goal
use Rattle.language.proofs.texts.BaseLanguage.{base_is_a_language}

pub returns : goal.returns
returns c = base_is_a_language
