use Rattle.std.proofs.Common.{sym, ap, ◌∙◌}
use Rattle.std.proofs.lemmas.List.{take_all}
use Rattle.early_errors.specs.Walk.{after, all_named}
use Rattle.early_errors.proofs.NameLoops.{doubles, turn-again, turn-first}
use Rattle.early_errors.proofs.conflicts.repeated_of_few.Goals as goal
use Rattle.early_errors.proofs.conflicts.repeated_of_few.Goals.{then-is_among, else-is_among}

pub loop-index-preserved : goal.loop-index-preserved
loop-index-preserved c =
    elim c.if-is_among.branch [
      | then-is_among w ↦
          w.found-is ∙ w.with_error-found.ensures
          ∙ turn-again c.args.error c.args.found c.loop-index.found c.args.names.now c.loop-index.index _ c.loop-index-test.true c.loop-index.invariant
          (sym c.is_among.ensures ∙ w.if-is_among.true)
      | else-is_among w ↦
          w.found-is
          ∙ turn-first c.args.error c.args.found c.loop-index.found c.args.names.now c.loop-index.index _ c.loop-index-test.true c.loop-index.invariant
          (sym c.is_among.ensures ∙ w.if-is_among.false)
    ]

pub returns : goal.returns
returns c = c.loop-index.invariant ∙ ap (λ l. after c.args.found (doubles c.args.error (all_named l))) (take_all c.loop-index.index c.args.names.now c.loop-index-test.false)
