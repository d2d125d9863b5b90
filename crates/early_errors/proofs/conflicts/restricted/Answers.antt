use Rattle.std.proofs.Common.{sym, ◌∙◌}
use Rattle.early_errors.specs.declared.EarlyError.TheVariants.{EvalOrArguments}
use Rattle.early_errors.specs.Strict.{is_restricted}
use Rattle.early_errors.proofs.NameLoops.{turn-passes, turn-fails}
use Rattle.early_errors.proofs.conflicts.restricted.Goals as goal
use Rattle.early_errors.proofs.conflicts.restricted.Goals.{then-is_restricted, else-is_restricted}

pub loop-named-preserved : goal.loop-named-preserved
loop-named-preserved c =
    elim c.if-is_restricted.branch [
      | then-is_restricted w ↦
          w.found-is ∙ w.with_error-found.ensures
          ∙ turn-passes is_restricted EvalOrArguments c.args.found c.loop-named.found c.args.names.now c.loop-named.named-index _ c.loop-named-test.true c.loop-named.invariant
          (sym c.is_restricted.ensures ∙ w.if-is_restricted.true)
      | else-is_restricted w ↦
          w.found-is
          ∙ turn-fails is_restricted EvalOrArguments c.args.found c.loop-named.found c.args.names.now c.loop-named.named-index _ c.loop-named-test.true c.loop-named.invariant
          (sym c.is_restricted.ensures ∙ w.if-is_restricted.false)
    ]
