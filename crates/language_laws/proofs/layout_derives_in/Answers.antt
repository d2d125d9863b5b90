use Rattle.language_laws.proofs.EachLanguage as lemma
use Rattle.language_laws.proofs.layout_derives_in.Goals as goal

pub returns : goal.returns
returns c = lemma.layout_derives_in
