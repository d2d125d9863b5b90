use Rattle.std.proofs.Common.{sym, ap, ◌∙◌}
use Rattle.std.proofs.lemmas.List.{take_all}
use Rattle.name_tables.specs.Sets.{contains}
use Rattle.early_errors.specs.Walk.{after, all_named}
use Rattle.early_errors.proofs.NameLoops.{passing, turn-passes, turn-fails}
use Rattle.early_errors.proofs.conflicts.held.Goals as goal
use Rattle.early_errors.proofs.conflicts.held.Goals.{then-contains, else-contains}

pub loop-named-preserved : goal.loop-named-preserved
loop-named-preserved c =
    elim c.if-contains.branch [
      | then-contains w ↦
          w.found-is ∙ w.with_error-found.ensures
          ∙ turn-passes (λ x. contains c.args.there.now x.0) c.args.error c.args.found c.loop-named.found c.args.names.now c.loop-named.named-index _ c.loop-named-test.true c.loop-named.invariant (sym c.contains.ensures ∙ w.if-contains.true)
      | else-contains w ↦
          w.found-is
          ∙ turn-fails (λ x. contains c.args.there.now x.0) c.args.error c.args.found c.loop-named.found c.args.names.now c.loop-named.named-index _ c.loop-named-test.true c.loop-named.invariant (sym c.contains.ensures ∙ w.if-contains.false)
    ]

pub returns : goal.returns
returns c = c.loop-named.invariant ∙ ap (λ l. after c.args.found (passing (λ x. contains c.args.there.now x.0) c.args.error (all_named l))) (take_all c.loop-named.named-index c.args.names.now c.loop-named-test.false)
