use Rattle.std.proofs.Common.{◌∙◌}
use Rattle.grammar.proofs.Operations.{assigned, unassigned}
use Rattle.grammar.proofs.operators.is_assignment.Goals as goal

pub returns-in-Some : goal.returns-in-Some
returns-in-Some c = c.is_assignment.ensures ∙ assigned c.args.operator.now c.in-Some.found c.in-Some.ensures

pub returns-in-None : goal.returns-in-None
returns-in-None c = unassigned c.args.operator.now c.in-None.ensures
