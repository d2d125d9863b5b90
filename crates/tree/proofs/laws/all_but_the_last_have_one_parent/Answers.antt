use Rattle.tree.proofs.Parents.{all_but_the_last}
use Rattle.tree.proofs.laws.all_but_the_last_have_one_parent.Goals as goal

pub returns : goal.returns
returns c = all_but_the_last
