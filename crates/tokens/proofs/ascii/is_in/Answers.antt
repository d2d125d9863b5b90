use Rattle.std.proofs.Common.{rules}
use Rattle.tokens.proofs.ascii.is_in.Goals as goal

pub returns : goal.returns
returns c = search rules
