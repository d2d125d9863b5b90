use Rattle.std.proofs.Common.{rules}
use Rattle.paren_planner.proofs.extra.span.Goals as goal

pub returns : goal.returns
returns c = search rules
