use Rattle.std.proofs.Common.{◌≤◌, length, arith}
use Rattle.tree.specs.Node.{node_tree}
use Rattle.tree.specs.Flat.{post_order}
use Rattle.tree.proofs.Grown.{length-post_order}
use Rattle.text_rules.proofs.NodeTurns.{outside-end, outside-turn}
use Rattle.text_rules.proofs.Turns.{grows}
use Rattle.text_rules.proofs.spaces.push_outside.Goals as goal

pub loop-number-preserved : goal.loop-number-preserved
loop-number-preserved c = record {
  found = outside-turn c.args.look.source.now c.args.look.rule (post_order c.args.program.now) c.loop-number.number c.loop-number.from c.loop-number.out.items _ c.loop-number.invariant.found (node_tree c.node.result) _ c.push_up_to.new.out.items
      c.node.ensures.tree c.in_ok-from.ensures.place c.in_ok-from.ensures.found;
  kept = grows c.args.out.now.items c.loop-number.out.items c.push_up_to.new.out.items c.loop-number.invariant.kept c.in_ok-from.ensures.kept;
}

pub returns-clause-found : goal.returns-clause-found
returns-clause-found c =
    let t = c.args.program.now in
    let source = c.args.look.source.now in
    let from = c.loop-number.from in
    let past : length (post_order t) ≤ c.loop-number.number = omega (arith, length-post_order t, c.node_count-number-end.ensures, c.loop-number-test.false) in
    outside-end source c.args.look.rule (post_order t) c.loop-number.number from c.loop-number.out.items _ c.loop-number.invariant.found c.push_between.new.out.items past c.in_ok-push_between.ensures.found

pub returns-clause-kept : goal.returns-clause-kept
returns-clause-kept c = grows c.args.out.now.items c.loop-number.out.items c.push_between.new.out.items c.loop-number.invariant.kept c.in_ok-push_between.ensures.kept
