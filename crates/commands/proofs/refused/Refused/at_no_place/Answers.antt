use Rattle.std.proofs.Common.{rules}
use Rattle.commands.proofs.refused.Refused.at_no_place.Goals as goal

pub returns : goal.returns
returns c = search rules
