use Rattle.std.proofs.Common.{rules}
use Rattle.estree_json.proofs.texts.unquoted.Goals as goal

pub returns : goal.returns
returns c = search rules
