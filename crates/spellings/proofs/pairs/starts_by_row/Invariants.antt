use Rattle.std.proofs.Common.{◌≡◌, ℕ, suc, ◌<◌, length, drop, slice_index}
use Rattle.tree.specs.Tree.{node_total}
use Rattle.tree.specs.Flat.{post_order}
use Rattle.tree.specs.NodeUses.{rows_of}
use Rattle.spellings.specs.Groupings.{row_start, start_among}
use Rattle.spellings.proofs.pairs.starts_by_row.Given as goal

-- each row starts where the nodes from here on have it start, or else where it is set so far
abbrev pub invariant-loop-number : goal.invariant-loop-number
invariant-loop-number l =
    (length l.starts.items ≡ node_total l.program)
    × ((i : ℕ) → i < node_total l.program → start_among (drop l.number (rows_of l.program)) (drop l.number (post_order l.program)) (suc i) (slice_index l.starts.items i) ≡ row_start l.program (suc i))
