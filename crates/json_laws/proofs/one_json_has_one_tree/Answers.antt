use Rattle.json_laws.proofs.JsonTells.{one_tree}
use Rattle.json_laws.proofs.one_json_has_one_tree.Goals as goal

pub returns : goal.returns
returns c = one_tree
