use Rattle.std.proofs.Common.{rules}
use Rattle.paren_planner.proofs.wrap_plan.Plan.wraps.Goals as goal

pub returns : goal.returns
returns c = search rules
