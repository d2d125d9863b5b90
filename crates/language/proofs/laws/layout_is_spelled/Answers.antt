use Rattle.language.proofs.layout.LayoutPairs.{layout_spelled}
use Rattle.language.proofs.laws.layout_is_spelled.Goals as goal

pub returns : goal.returns
returns c = λ W n a r d o ts us h k f g. layout_spelled W n a r d o ts us h k f g
