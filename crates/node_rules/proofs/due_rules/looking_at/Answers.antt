use Rattle.std.proofs.Common.{◌++◌, ap}
use Rattle.node_rules.specs.Due.{looking_at}
use Rattle.node_rules.proofs.DueLemmas.{looking-turn, looking-end}
use Rattle.node_rules.proofs.due_rules.looking_at.Goals as goal

pub loop-rule-init : goal.loop-rule-init
loop-rule-init c = ap (λ l. l ++ looking_at c.args.rules.now c.args.kind) c.new-list.ensures.items

pub loop-rule-preserved : goal.loop-rule-preserved
loop-rule-preserved c = looking-turn c.args.rules.now c.loop-rule.rule-index c.args.kind _ c.loop-rule.list.items c.push_looking.new.list.items _ c.loop-rule-test.true c.in_ok-push_looking.ensures c.loop-rule.invariant

pub returns : goal.returns
returns c = looking-end c.args.rules.now c.loop-rule.rule-index c.args.kind c.loop-rule.list.items _ c.loop-rule-test.false c.loop-rule.invariant
