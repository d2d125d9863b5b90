use Rattle.std.proofs.Common.{not, sym, ap, ◌∙◌}
use Rattle.early_errors.specs.declared.EarlyError.TheVariants.{UndefinedLabel}
use Rattle.early_errors.specs.Owns.{is_label_for, misses}
use Rattle.early_errors.specs.Walk.{look}
use Rattle.early_errors.proofs.NameLoops.{turn-passes, turn-fails}
use Rattle.early_errors.proofs.labels.undefined.Goals as goal
use Rattle.early_errors.proofs.labels.undefined.Goals.{then-not-is_label_for, else-not-is_label_for}

pub loop-named-preserved : goal.loop-named-preserved
loop-named-preserved c =
    elim c.if-not-is_label_for.branch [
      | then-not-is_label_for w ↦
          w.found-is ∙ w.with_error-found.ensures
          ∙ turn-passes (misses c.args.loops (look c.args.labels.now)) UndefinedLabel c.args.found c.loop-named.found c.args.names.now c.loop-named.named-index _ c.loop-named-test.true c.loop-named.invariant
          (ap not (sym (c.is_label_for.ensures ∙ ap (is_label_for c.args.loops) c.value.ensures) ∙ w.if-not-is_label_for.true))
      | else-not-is_label_for w ↦
          w.found-is
          ∙ turn-fails (misses c.args.loops (look c.args.labels.now)) UndefinedLabel c.args.found c.loop-named.found c.args.names.now c.loop-named.named-index _ c.loop-named-test.true c.loop-named.invariant
          (ap not (sym (c.is_label_for.ensures ∙ ap (is_label_for c.args.loops) c.value.ensures) ∙ w.if-not-is_label_for.false))
    ]
