use Rattle.std.proofs.Common.{sym, ap, ◌∙◌}
use Rattle.std.proofs.lemmas.List.{take_all}
use Rattle.early_errors.specs.Names.{has_name}
use Rattle.early_errors.specs.Walk.{after, all_named}
use Rattle.early_errors.proofs.NameLoops.{passing, turn-passes, turn-fails}
use Rattle.early_errors.proofs.conflicts.shared_of_few.Goals as goal
use Rattle.early_errors.proofs.conflicts.shared_of_few.Goals.{then-is_among, else-is_among}

pub loop-named-preserved : goal.loop-named-preserved
loop-named-preserved c =
    elim c.if-is_among.branch [
      | then-is_among w ↦
          w.found-is ∙ w.with_error-found.ensures
          ∙ turn-passes (λ x. has_name x.0 (all_named c.args.others.now)) c.args.error c.args.found c.loop-named.found c.args.names.now c.loop-named.named-index _ c.loop-named-test.true c.loop-named.invariant
          (sym c.is_among.ensures ∙ w.if-is_among.true)
      | else-is_among w ↦
          w.found-is
          ∙ turn-fails (λ x. has_name x.0 (all_named c.args.others.now)) c.args.error c.args.found c.loop-named.found c.args.names.now c.loop-named.named-index _ c.loop-named-test.true c.loop-named.invariant
          (sym c.is_among.ensures ∙ w.if-is_among.false)
    ]

pub returns : goal.returns
returns c = c.loop-named.invariant ∙ ap (λ l. after c.args.found (passing (λ x. has_name x.0 (all_named c.args.others.now)) c.args.error (all_named l))) (take_all c.loop-named.named-index c.args.names.now c.loop-named-test.false)
