use Rattle.completion_laws.proofs.RuleLaws.{loop_ends}
use Rattle.completion_laws.proofs.laws.reported_loops_end.Goals as goal

pub returns : goal.returns
returns c = λ source around body labels completion h d. loop_ends source around body labels completion h d
