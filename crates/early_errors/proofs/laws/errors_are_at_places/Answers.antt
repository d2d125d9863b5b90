use Rattle.early_errors.proofs.StartPlaces.{error_place}
use Rattle.early_errors.proofs.laws.errors_are_at_places.Goals as goal

pub returns : goal.returns
returns c = λ text n P u d x a. error_place text n P u d x a
