use Rattle.recursive_descent.proofs.reading.WaitingNodes.{waits_first}
use Rattle.recursive_descent.proofs.parser.Parser.expression_statement.Goals as goal

pub returns-clause-waits : goal.returns-clause-waits
returns-clause-waits c = λ base h. c.finish_node.ensures.waits base (waits_first base h c.in_ok-into_expression.ensures.settled.0 c.one-nodes.ensures)
