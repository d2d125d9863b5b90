use Rattle.std.proofs.Common.{sym, ◌∙◌, ap, is_some}
use Rattle.early_errors.specs.Walk.{look, stands}
use Rattle.early_errors.proofs.NameLoops.{turn-passes, turn-fails}
use Rattle.early_errors.proofs.conflicts.reported.Goals as goal
use Rattle.early_errors.proofs.conflicts.reported.Goals.{then-is_some, else-is_some}

pub loop-named-preserved : goal.loop-named-preserved
loop-named-preserved g c =
    elim c.if-is_some.branch [
      | then-is_some w ↦
          w.found-is ∙ w.with_error-found.ensures
          ∙ turn-passes (stands (look c.args.there.now)) c.args.error c.args.found c.loop-named.found c.args.names.now c.loop-named.named-index _ c.loop-named-test.true c.loop-named.invariant
          (sym (c.is_some.ensures ∙ ap is_some c.value.ensures) ∙ w.if-is_some.true)
      | else-is_some w ↦
          w.found-is
          ∙ turn-fails (stands (look c.args.there.now)) c.args.error c.args.found c.loop-named.found c.args.names.now c.loop-named.named-index _ c.loop-named-test.true c.loop-named.invariant
          (sym (c.is_some.ensures ∙ ap is_some c.value.ensures) ∙ w.if-is_some.false)
    ]
