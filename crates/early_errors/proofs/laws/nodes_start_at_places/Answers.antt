use Rattle.early_errors.proofs.StartPlaces.{node_place}
use Rattle.early_errors.proofs.laws.nodes_start_at_places.Goals as goal

pub returns : goal.returns
returns c = λ text n P u d at a. node_place text n P u d at a
