use Rattle.std.proofs.Common.{◌∙◌, ap}
use Rattle.tree.specs.Fields.{last_part}
use Rattle.typed_nodes.proofs.Shown.{one-there, one-missing}
use Rattle.typed_nodes.proofs.function.arrow.Goals as goal

pub returns : goal.returns
returns c = one-there _ _ _ _ (c.in_ok-body.ensures ∙ ap last_part c.parts-params.ensures) (rw (c.is_generator.ensures, c.is_async.ensures, c.without_last.ensures, c.parts-params.ensures, c.flags-flags.ensures))

pub returns-in_err-body : goal.returns-in_err-body
returns-in_err-body c = one-missing _ _ _ _ c.from_residual.ensures (c.in_err-body.ensures ∙ ap last_part c.parts-params.ensures)
