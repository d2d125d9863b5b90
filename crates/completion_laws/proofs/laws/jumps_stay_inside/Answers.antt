use Rattle.completion_laws.proofs.Jumps.{Fine, body_stays, script_stays}
use Rattle.early_errors.specs.Around.{outside_of}
use Rattle.completion_laws.proofs.laws.jumps_stay_inside.Goals as goal

pub returns : goal.returns
returns c = λ script completion h. (λ d. script_stays script completion h d, λ body b d. let f : Fine (outside_of script) script = record { fine = h } in body_stays b (outside_of script) f d)
