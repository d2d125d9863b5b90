use Rattle.std.proofs.Common.{true, ◌≡◌, ℕ, ◌+◌, ◌*◌, ◌++◌, Bool, List, drop, map, length}
use Rattle.tree.specs.Tree.{parts_of, text_of, node_total}
use Rattle.tree.specs.Node.{node_tree}
use Rattle.spelling_table.specs.Outlines.{parts_after}
use Rattle.language.specs.Pieces.{Role}
use Rattle.tree.specs.HeldRows.{HoldsRows}
use Rattle.tree.specs.declared.node_use.NodeUse.{NodeUse}
use Rattle.printer.specs.Bits.{Mark, Bit, bits_of, chain_of, fused}
use Rattle.language.specs.LayoutFits.{parts_fit}
use Rattle.printer.specs.Standings.{Adds}
use Rattle.printer.specs.Sheets.{seen}
use Rattle.printer.specs.Printed.{Reads, Stands, Gone, front_marks, chain_marks}
use Rattle.printer.proofs.printer.+print.Given as goal

-- what was passed of the first parts, and what is left of them
abbrev pub invariant-print_front-loop-index : goal.invariant-print_front-loop-index
invariant-print_front-loop-index g l = record {
  laid : (W : ℕ → Bool) → (st : NodeUse) → HoldsRows st l.fn.framed.node → (fs : List (List Bit)) → map (λ p. bits_of p.now) l.fn.framed.frame.now.front.now ≡ map fused fs → (ms : List Mark) → (xs : List Role) → (r : ℕ) → Reads W r l.fn.emitter.wraps.flags.now → parts_fit W (parts_of (node_tree l.fn.framed.node)) xs r ≡ true →
      Stands st (node_tree l.fn.framed.node) (front_marks (text_of (node_tree l.fn.framed.node)) l.fn.framed.frame.now.sites 0 fs (parts_of (node_tree l.fn.framed.node)) ms) (parts_of (node_tree l.fn.framed.node)) xs →
      Gone W st (node_tree l.fn.framed.node) (seen (g.O.TextSink.stands l.fn.out l.fn.emitter.room) l.fn.emitter) (seen (g.O.TextSink.stands l.out l.emitter.room) l.emitter) (front_marks (text_of (node_tree l.fn.framed.node)) l.fn.framed.frame.now.sites 0 fs (parts_of (node_tree l.fn.framed.node)) ms)
      (front_marks (text_of (node_tree l.fn.framed.node)) l.fn.framed.frame.now.sites l.index (drop l.index fs) (parts_after l.index (parts_of (node_tree l.fn.framed.node))) ms)
      (parts_of (node_tree l.fn.framed.node)) (parts_after l.index (parts_of (node_tree l.fn.framed.node))) xs l.fn.previous_is_bare l.previous_is_bare l.fn.framed.depth r;
  adds : Adds (g.O.TextSink.stands l.fn.out l.fn.emitter.room) (g.O.TextSink.stands l.out l.emitter.room);
}

-- the invariants of the other loops
abbrev pub invariant-print_list-loop-index : goal.invariant-print_list-loop-index
invariant-print_list-loop-index g l = record {
  laid : (W : ℕ → Bool) → (st : NodeUse) → HoldsRows st l.fn.framed.node → (ms : List Mark) → (xs : List Role) → (r : ℕ) → Reads W r l.fn.emitter.wraps.flags.now → parts_fit W (parts_after (length l.fn.framed.frame.now.front.now) (parts_of (node_tree l.fn.framed.node))) xs r ≡ true →
      Stands st (node_tree l.fn.framed.node) (chain_marks (text_of (node_tree l.fn.framed.node)) l.fn.framed.frame.now.sites (chain_of l.fn.framed.frame.now.series) (length l.fn.framed.frame.now.front.now) (parts_after (length l.fn.framed.frame.now.front.now) (parts_of (node_tree l.fn.framed.node))) ++ ms) (parts_after (length l.fn.framed.frame.now.front.now) (parts_of (node_tree l.fn.framed.node))) xs →
      Gone W st (node_tree l.fn.framed.node) (seen (g.O.TextSink.stands l.fn.out l.fn.emitter.room) l.fn.emitter) (seen (g.O.TextSink.stands l.out l.emitter.room) l.emitter)
      (chain_marks (text_of (node_tree l.fn.framed.node)) l.fn.framed.frame.now.sites (chain_of l.fn.framed.frame.now.series) (length l.fn.framed.frame.now.front.now) (parts_after (length l.fn.framed.frame.now.front.now) (parts_of (node_tree l.fn.framed.node))) ++ ms)
      (chain_marks (text_of (node_tree l.fn.framed.node)) l.fn.framed.frame.now.sites (chain_of l.fn.framed.frame.now.series) l.index (parts_after l.index (parts_of (node_tree l.fn.framed.node))) ++ ms)
      (parts_after (length l.fn.framed.frame.now.front.now) (parts_of (node_tree l.fn.framed.node))) (parts_after l.index (parts_of (node_tree l.fn.framed.node))) xs l.fn.previous_is_bare l.previous_is_bare l.fn.framed.depth r;
  adds : Adds (g.O.TextSink.stands l.fn.out l.fn.emitter.room) (g.O.TextSink.stands l.out l.emitter.room);
}

abbrev pub decreases-print_part : goal.decreases-print_part
decreases-print_part g l = 8 * node_total (node_tree l.framed.node)

abbrev pub decreases-print_item : goal.decreases-print_item
decreases-print_item g l = 8 * node_total (node_tree l.framed.node) + 1

abbrev pub decreases-print_list : goal.decreases-print_list
decreases-print_list g l = 8 * node_total (node_tree l.framed.node) + 2

abbrev pub decreases-print_front : goal.decreases-print_front
decreases-print_front g l = 8 * node_total (node_tree l.framed.node) + 2

abbrev pub decreases-print_framed : goal.decreases-print_framed
decreases-print_framed g l = 8 * node_total (node_tree l.framed.node) + 3

abbrev pub decreases-print_sign_operator : goal.decreases-print_sign_operator
decreases-print_sign_operator g l = 8 * node_total (node_tree l.node) + 3

abbrev pub decreases-print_direct : goal.decreases-print_direct
decreases-print_direct g l = 8 * node_total (node_tree l.node) + 5

abbrev pub decreases-print_parts : goal.decreases-print_parts
decreases-print_parts g l = 8 * node_total (node_tree l.node) + 4

abbrev pub decreases-print_node : goal.decreases-print_node
decreases-print_node g l = 8 * node_total (node_tree l.node) + 7

abbrev pub decreases-print_row : goal.decreases-print_row
decreases-print_row g l = 8 * node_total (node_tree l.node) + 6
