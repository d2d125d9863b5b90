use Rattle.early_errors.specs.Early.{errors}
use Rattle.early_errors.proofs.FirstError.{least_among, least_first, least_none}
use Rattle.early_errors.proofs.laws.each_reports_the_least.Goals as goal

pub returns : goal.returns
returns c = λ n. record {
  listed = λ x h. least_among (errors n) x h;
  first = λ x y h a. least_first (errors n) x h y a;
  silent = λ h. least_none (errors n) h;
}
