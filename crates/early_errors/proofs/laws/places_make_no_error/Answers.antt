use Rattle.early_errors.proofs.Placeless.{none_either}
use Rattle.early_errors.proofs.laws.places_make_no_error.Goals as goal

pub returns : goal.returns
returns c = λ a b h e. none_either a b h e
