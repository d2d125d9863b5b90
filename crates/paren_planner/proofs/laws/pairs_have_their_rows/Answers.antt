use Rattle.paren_planner.proofs.PairRows.{pairs_have_rows}
use Rattle.paren_planner.proofs.laws.pairs_have_their_rows.Goals as goal

pub returns : goal.returns
returns c = pairs_have_rows
