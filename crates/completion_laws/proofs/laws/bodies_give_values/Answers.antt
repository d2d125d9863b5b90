use Rattle.completion_laws.proofs.Jumps.{body_gives}
use Rattle.completion_laws.proofs.laws.bodies_give_values.Goals as goal

pub returns : goal.returns
returns c = λ script body completion h b i j d. body_gives completion h b i j d
