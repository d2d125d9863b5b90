use Rattle.language.proofs.layout.LayoutPairs as lemma
use Rattle.language.proofs.laws.layout_derives.Goals as goal

pub returns : goal.returns
returns c = λ other n P d text last o f g low. lemma.layout_derives other n P d text last o f g low
