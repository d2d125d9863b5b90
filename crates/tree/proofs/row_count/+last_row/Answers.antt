use Rattle.std.proofs.Common.{◌≡◌, ◌+◌, ◌-◌, ◌<◌, ◌∙◌, None, rules, sym, subst, arith}
use Rattle.tree.specs.Tree.{parts_of, part_at, node_total}
use Rattle.tree.specs.NodeUses.{rows_in}
use Rattle.tree.specs.Places.{place_tree}
use Rattle.tree.specs.HeldRows.{use_below, row_below}
use Rattle.tree.proofs.PartWalk.{part_smaller}
use Rattle.tree.proofs.FirstAndLast.{NoneBehind, no_last, none_behind, gap_behind, part_behind, found_last, own_last}
use Rattle.tree.proofs.row_count.+last_row.Goals as goal

pub loop-index-init : goal.loop-index-init
loop-index-init t c = λ a r h. none_behind a (place_tree c.args.place) c.part_count-count.result (omega (arith, c.part_count-count.ensures))

pub last_row-last-requires : goal.last_row-last-requires
last_row-last-requires t c =
    let smaller : node_total (place_tree c.in-Some.part) < t =
    omega (arith, c.decreases, part_smaller (place_tree c.args.place) (place_tree c.in-Some.part) (c.loop-index.index - 1) c.in-Some.ensures.tree) in
    (smaller, tt)

pub returns-then-is_some : goal.returns-then-is_some
returns-then-is_some t c = λ a r h.
    let n = place_tree c.args.place in
    let u = place_tree c.in-Some.part in
    let i = c.loop-index.index - 1 in
    let at : c.loop-index.index ≡ i + 1 = omega arith in
    found_last a r n i u c.last_row-last.result c.in-Some.ensures.tree (subst (NoneBehind a n) at (c.loop-index.invariant a r h))
    (c.last_row-last.ensures (use_below a n i u) (row_below a r n i) (c.in-Some.ensures.numbered a r h)) (sym c.is_some.ensures ∙ c.if-is_some.true)

pub loop-index-preserved-else-is_some : goal.loop-index-preserved-else-is_some
loop-index-preserved-else-is_some t c = λ a r h.
    let n = place_tree c.args.place in
    let u = place_tree c.in-Some.part in
    let i = c.loop-index.index - 1 in
    let at : c.loop-index.index ≡ i + 1 = omega arith in
    part_behind a n i u c.in-Some.ensures.tree
    (no_last (row_below a r n i) (rows_in (use_below a n i u) u) c.last_row-last.result (c.last_row-last.ensures (use_below a n i u) (row_below a r n i) (c.in-Some.ensures.numbered a r h))
    (sym c.is_some.ensures ∙ c.if-is_some.false)) (subst (NoneBehind a n) at (c.loop-index.invariant a r h))

pub loop-index-preserved : goal.loop-index-preserved
loop-index-preserved t c = λ a r h.
    let n = place_tree c.args.place in
    let i = c.loop-index.index - 1 in
    let at : c.loop-index.index ≡ i + 1 = omega arith in
    let missing : None ≡ part_at (parts_of n) i = search rules in
    gap_behind a n i missing (subst (NoneBehind a n) at (c.loop-index.invariant a r h))

pub returns : goal.returns
returns t c = λ a r h.
    let first : c.loop-index.index ≡ 0 = omega (arith, c.loop-index-test.false) in
    own_last c.args.place c.row.result c.row.ensures a r h (subst (NoneBehind a (place_tree c.args.place)) first (c.loop-index.invariant a r h))
