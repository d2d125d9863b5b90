use Rattle.std.proofs.Common.{◌++◌, ◌≤◌, length, append-nil, arith, ap, sym, ◌∙◌}
use Rattle.tree.specs.Node.{node_tree}
use Rattle.tree.specs.Flat.{post_order}
use Rattle.tree.proofs.Grown.{length-post_order}
use Rattle.value_rules.specs.Found.{each, of_node}
use Rattle.value_rules.proofs.Passes.{at-turn, each-end, grown}
use Rattle.value_rules.proofs.Together.{no-rules}
use Rattle.value_rules.proofs.walk.push_found.Goals as goal

-- no rule finds anything
pub returns-then-is_empty-clause-found : goal.returns-then-is_empty-clause-found
returns-then-is_empty-clause-found c =
    sym (append-nil c.args.out.now.items) ∙ ap (λ l. c.args.out.now.items ++ l) (sym (no-rules c.args.rules.now c.args.program.now (sym c.is_empty.ensures ∙ c.if-is_empty.true)))

pub loop-number-preserved : goal.loop-number-preserved
loop-number-preserved c = record {
  found = at-turn (λ tree. each (λ rule. of_node rule tree) c.args.rules.now) (post_order c.args.program.now) c.loop-number.number c.loop-number.out.items _ c.loop-number.invariant.found (node_tree c.node.result) c.push_of_node.new.out.items
      c.node.ensures.tree c.in_ok-push_of_node.ensures.found;
  kept = grown c.args.out.now.items c.loop-number.out.items c.push_of_node.new.out.items c.loop-number.invariant.kept c.in_ok-push_of_node.ensures.kept;
}

pub returns-clause-found : goal.returns-clause-found
returns-clause-found c =
    let t = c.args.program.now in
    let past : length (post_order t) ≤ c.loop-number.number = omega (arith, length-post_order t, c.node_count-number-end.ensures, c.loop-number-test.false) in
    each-end (λ tree. each (λ rule. of_node rule tree) c.args.rules.now) (post_order t) c.loop-number.number c.loop-number.out.items _ c.loop-number.invariant.found past
