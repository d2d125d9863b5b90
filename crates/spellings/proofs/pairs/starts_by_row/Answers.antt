use Rattle.std.proofs.Common.{suc, ◌+◌, ◌<◌, ◌≤◌, ◌∙◌, cond, length, slice_index, drop, sym, ap, ap₂, add-one, arith}
use Rattle.tree.specs.Tree.{start_of}
use Rattle.tree.specs.Node.{node_tree, node_row}
use Rattle.tree.specs.Flat.{post_order}
use Rattle.tree.specs.NodeUses.{rows_of}
use Rattle.tree.proofs.Grown.{length-post_order}
use Rattle.spellings.specs.Groupings.{holds_row, start_among}
use Rattle.spellings.proofs.StartsByRow.{starts_turn, starts_end, are_starts}
use Rattle.spellings.proofs.pairs.starts_by_row.Goals as goal

pub loop-number-preserved : goal.loop-number-preserved
loop-number-preserved c =
    let qs = rows_of c.args.program.now in
    let ns = post_order c.args.program.now in
    let ss = c.loop-number.starts.items in
    let i = c.loop-number.number in
    let q = node_row c.node-node.result in
    let m = node_tree c.node-node.result in
    let kept = c.loop-number.invariant.0 in (
      c.set_start.ensures.length ∙ kept,
      λ j w. let v : j < length ss = omega (arith, w, kept) in
          ap (start_among (drop (i + 1) qs) (drop (i + 1) ns) (suc j))
          (c.set_start.ensures.each j v ∙ ap₂ (λ a s. cond (holds_row a (suc j)) s (slice_index ss j)) c.row.ensures c.span.ensures.starts)
          ∙ ap (λ k. start_among (drop k qs) (drop k ns) (suc j) (cond (holds_row q (suc j)) (start_of m) (slice_index ss j))) (add-one i)
          ∙ starts_turn qs ns (suc j) (slice_index ss j) i q m c.node-node.ensures.row c.node-node.ensures.tree
          ∙ c.loop-number.invariant.1 j w,
    )

pub returns : goal.returns
returns c =
    let n = c.args.program.now in
    let past : length (post_order n) ≤ c.loop-number.number = omega (arith, length-post_order n, c.node_count-number-end.ensures, c.loop-number-test.false) in
    are_starts n c.loop-number.starts.items c.loop-number.invariant.0
    (λ i w. sym (starts_end (rows_of n) (post_order n) (suc i) (slice_index c.loop-number.starts.items i) c.loop-number.number past) ∙ c.loop-number.invariant.1 i w)
