use Rattle.json_laws.proofs.JsonTells.{json_tells}
use Rattle.json_laws.proofs.json_tells_trees.Goals as goal

pub returns : goal.returns
returns c = json_tells
