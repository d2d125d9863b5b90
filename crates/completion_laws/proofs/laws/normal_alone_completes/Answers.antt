use Rattle.std.proofs.Common.{refl}
use Rattle.completion_laws.proofs.NormalCompletions.{can}
use Rattle.completion_laws.proofs.laws.normal_alone_completes.Goals as goal

pub returns : goal.returns
returns c = λ labels tree d. (can d refl).normal
