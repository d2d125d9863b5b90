use Rattle.std.proofs.Common.{◌+◌, ◌++◌, ap, ◌∙◌, arith}
use Rattle.std.proofs.lemmas.List.{take_rest}
use Rattle.literal_rules.specs.Marks.{report_if}
use Rattle.literal_rules.specs.Rows.{is_marked}
use Rattle.literal_rules.proofs.Passes.{grown}
use Rattle.literal_rules.proofs.Reading.{marks-turn, marks-end}
use Rattle.literal_rules.proofs.mark.push_marks.Goals as goal

pub loop-index-preserved : goal.loop-index-preserved
loop-index-preserved c = record {
  found = marks-turn c.args.rule c.loop-index.state c.args.text.now c.loop-index.index (c.args.start + c.loop-index.index) c.loop-index.out.items _ c.loop-index.invariant.found _ (c.args.start + (c.loop-index.index + 1)) _ c.push_if.new.out.items
      c.loop-index-test.true (omega arith) c.next_state-state.ensures
      (c.in_ok-push_if.ensures.found
      ∙ ap (λ b. c.loop-index.out.items ++ report_if b c.args.rule (c.args.start + c.loop-index.index)) (c.is_marked-is_here.ensures ∙ ap (is_marked c.args.rule c.loop-index.state) (take_rest c.args.text.now c.loop-index.index)));
  kept = grown c.args.out.now.items c.loop-index.out.items c.push_if.new.out.items c.loop-index.invariant.kept c.in_ok-push_if.ensures.kept;
}

pub returns-clause-found : goal.returns-clause-found
returns-clause-found c = marks-end c.args.rule c.loop-index.state c.args.text.now c.loop-index.index (c.args.start + c.loop-index.index) c.loop-index.out.items _ c.loop-index.invariant.found c.loop-index-test.false
