use Rattle.std.proofs.Common.{sym, ap, ◌∙◌}
use Rattle.std.proofs.lemmas.List.{take_rest}
use Rattle.literal_rules.specs.Rows.{is_marked}
use Rattle.literal_rules.proofs.Reading.{mark-here, mark-turn, mark-end}
use Rattle.literal_rules.proofs.mark.first_mark.Goals as goal

pub returns-then-is_marked-clause-mark : goal.returns-then-is_marked-clause-mark
returns-then-is_marked-clause-mark c =
    mark-here c.args.rule c.loop-index.state c.args.text.now c.loop-index.index _ c.loop-index.invariant c.loop-index-test.true
    (ap (is_marked c.args.rule c.loop-index.state) (sym (take_rest c.args.text.now c.loop-index.index)) ∙ sym c.is_marked.ensures ∙ c.if-is_marked.true)

pub loop-index-preserved : goal.loop-index-preserved
loop-index-preserved c =
    mark-turn c.args.rule c.loop-index.state c.args.text.now c.loop-index.index _ c.loop-index.invariant c.loop-index-test.true _ _ c.next_state-state.ensures
    (ap (is_marked c.args.rule c.loop-index.state) (sym (take_rest c.args.text.now c.loop-index.index)) ∙ sym c.is_marked.ensures ∙ c.if-is_marked.false)

pub returns-clause-mark : goal.returns-clause-mark
returns-clause-mark c = mark-end c.args.rule c.loop-index.state c.args.text.now c.loop-index.index _ c.loop-index.invariant c.loop-index-test.false
