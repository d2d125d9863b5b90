use Rattle.json_laws.proofs.JsonTells.{one_json}
use Rattle.json_laws.proofs.one_tree_has_one_json.Goals as goal

pub returns : goal.returns
returns c = one_json
