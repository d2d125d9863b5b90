use Rattle.std.proofs.Common.{◌++◌, map, ap}
use Rattle.node_rules.specs.Due.{looking_at}
use Rattle.node_rules.proofs.DueLemmas.{lists-turn, lists-end}
use Rattle.node_rules.proofs.due_rules.lists_for.Goals as goal

pub loop-kind-init : goal.loop-kind-init
loop-kind-init c = ap (λ ls. map (λ list. list.items) ls ++ map (looking_at c.args.rules.now) c.args.kinds.now) c.new-lists.ensures.items

pub loop-kind-preserved : goal.loop-kind-preserved
loop-kind-preserved c = lists-turn (λ list. list.items) (looking_at c.args.rules.now) c.args.kinds.now c.loop-kind.kind-index _ c.loop-kind.lists.items c.push.new.self.items c.in_ok-list.list _ c.loop-kind-test.true c.in_ok-push.ensures.items c.in_ok-list.ensures c.loop-kind.invariant

pub returns : goal.returns
returns c = lists-end (λ list. list.items) (looking_at c.args.rules.now) c.args.kinds.now c.loop-kind.kind-index c.loop-kind.lists.items _ c.loop-kind-test.false c.loop-kind.invariant
