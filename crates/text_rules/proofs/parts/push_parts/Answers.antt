use Rattle.std.proofs.Common.{◌≤◌, ◌<◌, subst}
use Rattle.tree.specs.Node.{node_tree}
use Rattle.tree.specs.Tree.{parts_of}
use Rattle.text_rules.proofs.PartTurns.{part-end, part-turn}
use Rattle.text_rules.proofs.Turns.{grows}
use Rattle.text_rules.proofs.parts.push_parts.Goals as goal

pub loop-index-preserved : goal.loop-index-preserved
loop-index-preserved c =
    let t = node_tree c.args.node in
    let i = c.loop-index.index in
    record {
      found = part-turn c.args.look.source.now c.args.look.rule t (parts_of t) i c.loop-index.from c.loop-index.out.items _ c.loop-index.invariant.found _ _ c.push_part.new.out.items (subst (λ n. i < n) c.part_count-index-end.ensures c.loop-index-test.true)
          c.part.ensures c.in_ok-from.ensures.place c.in_ok-from.ensures.found;
      kept = grows c.args.out.now.items c.loop-index.out.items c.push_part.new.out.items c.loop-index.invariant.kept c.in_ok-from.ensures.kept;
    }

pub returns-clause-found : goal.returns-clause-found
returns-clause-found c =
    let t = node_tree c.args.node in
    part-end c.args.look.source.now c.args.look.rule t (parts_of t) c.loop-index.index c.loop-index.from c.loop-index.out.items _ c.loop-index.invariant.found
    (subst (λ n. n ≤ c.loop-index.index) c.part_count-index-end.ensures c.loop-index-test.false)
