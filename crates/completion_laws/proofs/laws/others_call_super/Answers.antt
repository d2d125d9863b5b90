use Rattle.completion_laws.proofs.RuleLaws.{calls_super}
use Rattle.completion_laws.proofs.laws.others_call_super.Goals as goal

pub returns : goal.returns
returns c = λ source around body completion h i j k d. calls_super source around body completion h i j k d
