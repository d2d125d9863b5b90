use Rattle.tree.proofs.Parents.{the_last}
use Rattle.tree.proofs.laws.the_last_has_no_parent.Goals as goal

pub returns : goal.returns
returns c = the_last
