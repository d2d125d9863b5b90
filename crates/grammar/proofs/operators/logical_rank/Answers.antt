use Rattle.std.proofs.Common.{ap, ◌∙◌}
use Rattle.grammar.specs.Operations.{rank_of_logical}
use Rattle.grammar.proofs.Operations.{joined_same}
use Rattle.grammar.proofs.operators.logical_rank.Goals as goal

pub returns : goal.returns
returns c = c.rank_of_logical.ensures ∙ (ap rank_of_logical c.operation_of.ensures ∙ joined_same c.args.operator.now)
