use Rattle.std.proofs.Common.{◌∙◌}
use Rattle.grammar.proofs.Operations.{made_of, made_of_none}
use Rattle.grammar.proofs.operators.operation_of.Goals as goal

pub returns-in-Some : goal.returns-in-Some
returns-in-Some c = c.operation_by.ensures ∙ made_of c.args.operator.now c.in-Some.found c.in-Some.ensures

pub returns-in-None : goal.returns-in-None
returns-in-None c = made_of_none c.args.operator.now c.in-None.ensures
