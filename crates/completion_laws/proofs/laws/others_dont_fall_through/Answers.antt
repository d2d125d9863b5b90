use Rattle.completion_laws.proofs.RuleLaws.{no_fallthrough}
use Rattle.completion_laws.proofs.laws.others_dont_fall_through.Goals as goal

pub returns : goal.returns
returns c = λ labels case h i j d. no_fallthrough labels case h i j d
