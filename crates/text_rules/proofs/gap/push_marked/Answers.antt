use Rattle.std.proofs.Common.{[], ◌+◌, ◌++◌, append-nil, arith, sym, ap, ◌∙◌}
use Rattle.std.proofs.lemmas.Str.{IsCharBoundary-start}
use Rattle.text_rules.specs.Rows.{report_if}
use Rattle.text_rules.proofs.Characters.{mark-end, mark-init, mark-turn}
use Rattle.text_rules.proofs.Turns.{grows}
use Rattle.text_rules.proofs.gap.push_marked.Goals as goal

pub loop-step-init : goal.loop-step-init
loop-step-init c = record {
  place = IsCharBoundary-start c.args.text.now c.utf8.text;
  within = omega arith;
  found = mark-init c.args.look.rule c.args.text.now c.args.from c.start-reading.result c.args.out.now.items c.start-reading.ensures;
  kept = ([], sym (append-nil c.args.out.now.items));
}

pub loop-step-preserved : goal.loop-step-preserved
loop-step-preserved c =
    let i = c.loop-step.invariant in
    record {
      place = c.in-Some.ensures.some.place;
      within = c.in-Some.ensures.within.1;
      found = mark-turn c.args.look.rule c.args.text.now c.args.from c.loop-step.at c.loop-step.reading c.loop-step.out.items _ i.found c.in-Some.step.end c.in-Some.step.c c.after-reading.result c.push_if.new.out.items
          c.in-Some.ensures.some c.after-reading.ensures
          (c.in_ok-push_if.ensures.found ∙ ap (λ b. c.loop-step.out.items ++ report_if b c.args.look.rule (c.args.from + c.loop-step.at) (c.args.from + c.in-Some.step.end)) c.marks.ensures);
      kept = grows c.args.out.now.items c.loop-step.out.items c.push_if.new.out.items i.kept c.in_ok-push_if.ensures.kept;
    }

pub returns-clause-found : goal.returns-clause-found
returns-clause-found c = mark-end c.args.look.rule c.args.text.now c.args.from c.loop-step.at c.loop-step.reading c.loop-step.out.items _ c.loop-step.invariant.found c.in_default.ensures.none
