use Rattle.completion_laws.proofs.Unreached.{unreached}
use Rattle.completion_laws.proofs.laws.reported_are_unreached.Goals as goal

pub returns : goal.returns
returns c = λ source script. unreached source script
