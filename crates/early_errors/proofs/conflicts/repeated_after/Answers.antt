use Rattle.std.proofs.Common.{sym, ◌∙◌}
use Rattle.name_tables.specs.Sets.{contains}
use Rattle.early_errors.proofs.NameLoops.{turn-doubles, turn-alone}
use Rattle.early_errors.proofs.Tables.{seen-turn, stood, stood_not}
use Rattle.early_errors.proofs.conflicts.repeated_after.Goals as goal
use Rattle.early_errors.proofs.conflicts.repeated_after.Goals.{then-not-branch, else-not-branch}

pub loop-named-preserved : goal.loop-named-preserved
loop-named-preserved c = record {
  so_far = elim c.if-not-branch.branch [
    | then-not-branch w ↦
        w.found-is ∙ w.with_error-found.ensures
        ∙ turn-doubles c.args.error c.args.found c.loop-named.found c.args.names.now c.loop-named.named-index _ c.loop-named-test.true c.loop-named.invariant.so_far
        (sym (c.loop-named.invariant.seen _) ∙ stood c.in_ok-insert.field-0 _ c.in_ok-insert.ensures.new w.if-not-branch.true)
    | else-not-branch w ↦
        w.found-is
        ∙ turn-alone c.args.error c.args.found c.loop-named.found c.args.names.now c.loop-named.named-index _ c.loop-named-test.true c.loop-named.invariant.so_far
        (sym (c.loop-named.invariant.seen _) ∙ stood_not c.in_ok-insert.field-0 _ c.in_ok-insert.ensures.new w.if-not-branch.false)
  ];
  seen = seen-turn (contains c.loop-named.seen) (contains c.insert.new.self) c.args.names.now c.loop-named.named-index _ c.loop-named-test.true c.in_ok-insert.ensures.after c.loop-named.invariant.seen;
}
