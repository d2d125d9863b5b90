use Rattle.pairless_laws.proofs.FreeParts.{free_parts}
use Rattle.pairless_laws.proofs.laws.free_parts_are_free.Goals as goal

pub returns : goal.returns
returns c = λ n a h. free_parts n a h
