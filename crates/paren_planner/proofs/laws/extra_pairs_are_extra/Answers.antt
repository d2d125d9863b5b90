use Rattle.paren_planner.proofs.PairRows.{extra_pairs_are_extra}
use Rattle.paren_planner.proofs.laws.extra_pairs_are_extra.Goals as goal

pub returns : goal.returns
returns c = extra_pairs_are_extra
