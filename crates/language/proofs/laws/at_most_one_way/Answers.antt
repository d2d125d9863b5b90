use Rattle.language.proofs.table.OneWay as lemma
use Rattle.language.proofs.laws.at_most_one_way.Goals as goal

pub returns : goal.returns
returns c = λ a n qs rs f h k. lemma.at_most_one_way a n qs rs f h k
