use Rattle.std.proofs.Common.{sym, ap, ◌∙◌}
use Rattle.flow_rules.specs.Fallthrough.{begins_falls}
use Rattle.flow_rules.proofs.TextLemmas.{says-found, says-turn, says-end}
use Rattle.flow_rules.proofs.fallthrough.says_falls.Goals as goal

pub returns-then-begins_falls : goal.returns-then-begins_falls
returns-then-begins_falls c =
    says-found c.args.text.now c.loop-index.index _ c.loop-index.invariant c.loop-index-test.true (sym (ap begins_falls c.skipped.ensures) ∙ sym c.begins_falls.ensures ∙ c.if-begins_falls.true)

pub loop-index-preserved : goal.loop-index-preserved
loop-index-preserved c =
    says-turn c.args.text.now c.loop-index.index _ c.loop-index.invariant c.loop-index-test.true (sym (ap begins_falls c.skipped.ensures) ∙ sym c.begins_falls.ensures ∙ c.if-begins_falls.false)

pub returns : goal.returns
returns c = says-end c.args.text.now c.loop-index.index _ c.loop-index.invariant c.loop-index-test.false
