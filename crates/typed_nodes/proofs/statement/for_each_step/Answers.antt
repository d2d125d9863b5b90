use Rattle.typed_nodes.proofs.Shown.{one-there, one-missing}
use Rattle.typed_nodes.proofs.statement.for_each_step.Goals as goal

pub returns : goal.returns
returns c = one-there _ _ _ _ c.in_ok-body.ensures (rw (c.part-2.ensures, c.part-3.ensures, c.part-4.ensures))

pub returns-in_err-body : goal.returns-in_err-body
returns-in_err-body c = one-missing _ _ _ _ c.from_residual.ensures c.in_err-body.ensures
