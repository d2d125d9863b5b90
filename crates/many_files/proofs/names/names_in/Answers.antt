use Rattle.std.proofs.Common.{◌≡◌, ◌∙◌, ◌+◌, ◌-◌, ◌≤◌, map, ap, refl, arith}
use Rattle.many_files.proofs.ListedNames.{name_ended, name_goes_on}
use Rattle.many_files.proofs.names.names_in.Goals as goal
use Rattle.many_files.proofs.names.names_in.Goals.{then-list-at-eq0+in_ok-push, else-list-at-eq0}

pub loop-at-preserved : goal.loop-at-preserved
loop-at-preserved c = elim c.if-list-at-eq0.branch [
  | then-list-at-eq0+in_ok-push w ↦ record {
    begun = omega (arith, w.start-is);
    within = omega (arith, c.loop-at-test.true);
    found = name_ended (λ n. n.now) c.loop-at.names.items _ _ c.args.list.now _ c.loop-at.start c.loop-at.at c.if-list-at-eq0.start
        (ap (λ v. v.items) w.names-is ∙ w.in_ok-push.ensures.items) refl w.start-is c.loop-at-test.true w.if-list-at-eq0.true c.loop-at.invariant.found;
  }
  | else-list-at-eq0 w ↦ record {
    begun = omega (arith, w.start-is, c.loop-at.invariant.begun);
    within = omega (arith, c.loop-at-test.true);
    found = name_goes_on (λ n. n.now) c.loop-at.names.items c.if-list-at-eq0.names.items c.args.list.now _ c.loop-at.start c.loop-at.at c.if-list-at-eq0.start
        (ap (λ v. v.items) w.names-is) w.start-is c.loop-at.invariant.begun c.loop-at-test.true w.if-list-at-eq0.false c.loop-at.invariant.found;
  }
]
