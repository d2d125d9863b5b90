use Rattle.retaining.proofs.WordLists.{operator_logical, operator_equality, operator_relational, operator_arithmetic}
use Rattle.retaining.proofs.words.is_operator.Goals as goal

pub returns-then-is_logical : goal.returns-then-is_logical
returns-then-is_logical c = λ _. operator_logical c.args.word.now (c.is_logical.ensures c.if-is_logical.true)

pub returns-then-is_equality : goal.returns-then-is_equality
returns-then-is_equality c = λ _. operator_equality c.args.word.now (c.is_equality.ensures c.if-is_equality.true)

pub returns-then-is_relational : goal.returns-then-is_relational
returns-then-is_relational c = λ _. operator_relational c.args.word.now (c.is_relational.ensures c.if-is_relational.true)

pub returns : goal.returns
returns c = λ is. operator_arithmetic c.args.word.now (c.is_arithmetic.ensures is)
