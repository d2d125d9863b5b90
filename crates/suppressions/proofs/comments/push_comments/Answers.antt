use Rattle.std.proofs.Common.{arith}
use Rattle.std.proofs.lemmas.Str.{IsCharBoundary-start}
use Rattle.suppressions.proofs.CommentTurns.{comment-end, comment-init, comment-turn}
use Rattle.suppressions.proofs.comments.push_comments.Goals as goal

pub loop-step-init : goal.loop-step-init
loop-step-init c = record {
  place = IsCharBoundary-start c.args.text.now c.utf8.text;
  within = omega arith;
  found = comment-init c.args.text.now c.args.from c.args.out.now.items;
}

pub loop-step-preserved : goal.loop-step-preserved
loop-step-preserved c = record {
  place = c.in-Some.ensures.some.place;
  within = c.in-Some.ensures.within.1;
  found = comment-turn c.args.text.now c.args.from c.loop-step.at c.loop-step.spot c.loop-step.begun c.loop-step.out.items _ c.loop-step.invariant.found c.in-Some.step.end c.in-Some.step.c c.push_ending.new.out.items _ _
      c.in-Some.ensures.some c.in_ok-push_ending.ensures c.spot_after-spot.ensures c.begun_after-begun.ensures;
}

pub returns : goal.returns
returns c = comment-end c.args.text.now c.args.from c.loop-step.at c.loop-step.spot c.loop-step.begun c.loop-step.out.items _ c.loop-step.invariant.found c.push_last.new.out.items c.in_default.ensures.none c.in_ok-push_last.ensures
