use Rattle.early_errors.proofs.ErrorStarts.{error_at_node}
use Rattle.early_errors.proofs.laws.errors_are_at_nodes.Goals as goal

pub returns : goal.returns
returns c = λ n x a. error_at_node n x a
