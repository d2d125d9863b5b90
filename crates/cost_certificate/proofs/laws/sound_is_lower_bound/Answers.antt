use Rattle.cost_certificate.proofs.SoundBound.{sound_at_least}
use Rattle.cost_certificate.proofs.laws.sound_is_lower_bound.Goals as goal

pub returns : goal.returns
returns c = λ t n s text m P h d. sound_at_least t n s text m P h d
