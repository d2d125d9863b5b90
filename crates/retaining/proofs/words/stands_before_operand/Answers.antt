use Rattle.retaining.proofs.WordLists.{operand_expression, operand_statement, operand_star}
use Rattle.retaining.proofs.words.stands_before_operand.Goals as goal

pub returns-then-stands_before_expression : goal.returns-then-stands_before_expression
returns-then-stands_before_expression c = operand_expression c.args.word.now c.stands_before_expression.result c.stands_before_expression.ensures c.if-stands_before_expression.true

pub returns-then-stands_before_statement : goal.returns-then-stands_before_statement
returns-then-stands_before_statement c = operand_statement c.args.word.now c.stands_before_statement.result c.stands_before_statement.ensures c.if-stands_before_statement.true

pub returns : goal.returns
returns c =
    operand_star c.args.word.now c.stands_before_expression.result c.stands_before_statement.result c.stands_before_star.result c.stands_before_expression.ensures c.stands_before_statement.ensures c.stands_before_star.ensures
    c.if-stands_before_expression.false c.if-stands_before_statement.false
