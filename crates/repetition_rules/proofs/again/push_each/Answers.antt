use Rattle.std.proofs.Common.{[], ◌∷◌, append-nil, refl, sym}
use Rattle.repetition_rules.proofs.Behind.{again-turn, holds-more}
use Rattle.repetition_rules.proofs.Passes.{grown}
use Rattle.repetition_rules.proofs.again.push_each.Goals as goal

pub loop-entry-init : goal.loop-entry-init
loop-entry-init c = record { before = ([], (c.requires, refl)); kept = ([], sym (append-nil c.args.out.now.items)) }

pub loop-entry-preserved : goal.loop-entry-preserved
loop-entry-preserved c =
    let i = c.loop-entry.invariant.before in
    let e = c.entry-item.result in
    record {
      before = (
        e ∷ i.0,
        (
          holds-more c.loop-entry.seen c.push_one.new.seen e i.0 i.1.0 c.in_ok-push_one.ensures.with,
          again-turn c.args.rule i.0 c.args.entries.now c.loop-entry.entry-index c.loop-entry.out.items _ i.1.1 c.loop-entry.seen e c.push_one.new.out.items c.loop-entry-test.true c.entry-item.is i.1.0 c.in_ok-push_one.ensures.found,
        ),
      );
      kept = grown c.args.out.now.items c.loop-entry.out.items c.push_one.new.out.items c.loop-entry.invariant.kept c.in_ok-push_one.ensures.kept;
    }
