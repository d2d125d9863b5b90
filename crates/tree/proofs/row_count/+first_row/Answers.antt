use Rattle.std.proofs.Common.{◌≡◌, ◌<◌, ◌∙◌, None, rules, sym, arith}
use Rattle.tree.specs.Tree.{parts_of, part_at, node_total}
use Rattle.tree.specs.NodeUses.{rows_in}
use Rattle.tree.specs.Places.{place_tree}
use Rattle.tree.specs.HeldRows.{use_below, row_below}
use Rattle.tree.proofs.PartWalk.{part_smaller}
use Rattle.tree.proofs.FirstAndLast.{no_first, gap_before, part_before, found_first, none_first}
use Rattle.tree.proofs.row_count.+first_row.Goals as goal
use Rattle.tree.proofs.row_count.+first_row.Goals.{in-Some+else-is_some-2, in_default}

pub first_row-first-requires : goal.first_row-first-requires
first_row-first-requires t c =
    let smaller : node_total (place_tree c.in-Some.part) < t =
    omega (arith, c.decreases, part_smaller (place_tree c.args.place) (place_tree c.in-Some.part) c.loop-index.index c.in-Some.ensures.tree) in
    (smaller, tt)

pub returns-then-is_some-2 : goal.returns-then-is_some-2
returns-then-is_some-2 t c = λ a r h.
    let n = place_tree c.args.place in
    let u = place_tree c.in-Some.part in
    let i = c.loop-index.index in
    found_first a r n i u c.first_row-first.result c.in-Some.ensures.tree (c.loop-index.invariant a r h)
    (c.first_row-first.ensures (use_below a n i u) (row_below a r n i) (c.in-Some.ensures.numbered a r h)) (sym c.is_some-in-Some.ensures ∙ c.if-is_some-2.true)

pub loop-index-preserved : goal.loop-index-preserved
loop-index-preserved t c =
    let n = place_tree c.args.place in
    let i = c.loop-index.index in
    elim c.match-part.branch [
      | in-Some+else-is_some-2 w ↦ λ a r h.
          let u = place_tree w.in-Some.part in
          part_before a n i u w.in-Some.ensures.tree
          (no_first (row_below a r n i) (rows_in (use_below a n i u) u) w.first_row-first.result (w.first_row-first.ensures (use_below a n i u) (row_below a r n i) (w.in-Some.ensures.numbered a r h))
          (sym w.is_some-in-Some.ensures ∙ w.if-is_some-2.false)) (c.loop-index.invariant a r h)
      | in_default w ↦ λ a r h.
          let missing : None ≡ part_at (parts_of n) i = search rules in
          gap_before a n i missing (c.loop-index.invariant a r h)
    ]

pub returns : goal.returns
returns t c = λ a r h. none_first a r (place_tree c.args.place) c.loop-index.index (omega (arith, c.loop-index-test.false, c.part_count-count.ensures)) (c.loop-index.invariant a r h)
