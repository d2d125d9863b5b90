use Rattle.std.proofs.Common.{◌∙◌}
use Rattle.early_errors.specs.Walk.{look, sooner}
use Rattle.early_errors.proofs.NameLoops.{hits_turn}
use Rattle.early_errors.proofs.conflicts.hits.Goals as goal

pub loop-named-preserved : goal.loop-named-preserved
loop-named-preserved c =
    c.earlier_error-found.ensures ∙ (λ i. sooner (c.loop-named.invariant i) (c.value.ensures i))
    ∙ hits_turn (look c.args.clashes.now) c.args.found c.args.names.now c.loop-named.named-index _ c.loop-named-test.true
