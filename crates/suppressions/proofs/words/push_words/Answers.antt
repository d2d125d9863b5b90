use Rattle.std.proofs.Common.{refl, arith}
use Rattle.std.proofs.lemmas.Str.{IsCharBoundary-start}
use Rattle.suppressions.proofs.WordTurns.{word-end, word-turn}
use Rattle.suppressions.proofs.words.push_words.Goals as goal

pub loop-step-init : goal.loop-step-init
loop-step-init c = record {
  begin = IsCharBoundary-start c.args.text.now c.utf8.text;
  place = IsCharBoundary-start c.args.text.now c.utf8.text;
  within = omega arith;
  found = refl;
}

pub loop-step-preserved : goal.loop-step-preserved
loop-step-preserved c = record {
  begin = c.in_ok-from.ensures.place;
  place = c.in-Some.ensures.some.place;
  within = c.in-Some.ensures.within.1;
  found = word-turn c.args.text.now c.loop-step.from c.loop-step.at c.loop-step.out.items _ c.loop-step.invariant.found c.in-Some.step.end c.in-Some.step.c _ c.end_word.new.out.items
      c.in-Some.ensures.some c.in_ok-from.ensures.found c.in_ok-from.ensures.value;
}

pub returns : goal.returns
returns c = word-end c.args.text.now c.loop-step.from c.loop-step.at c.loop-step.out.items _ c.loop-step.invariant.found c.push_word.new.out.items c.in_default.ensures.none c.in_ok-push_word.ensures
