use Rattle.std.proofs.Common.{ap, ◌∙◌}
use Rattle.grammar.specs.Operations.{rank_of_binary}
use Rattle.grammar.proofs.Operations.{plain_same}
use Rattle.grammar.proofs.operators.binary_rank.Goals as goal

pub returns : goal.returns
returns c = c.rank_of_binary.ensures ∙ (ap rank_of_binary c.operation_of.ensures ∙ plain_same c.args.operator.now)
