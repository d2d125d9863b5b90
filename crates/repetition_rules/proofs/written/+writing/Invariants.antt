use Rattle.std.proofs.Common.{◌≡◌, ◌+◌, ◌*◌, ◌++◌, option_map}
use Rattle.std.specs.Prelude.{codes}
use Rattle.std.specs.String.{string_bytes}
use Rattle.tree.specs.Node.{node_tree}
use Rattle.tree.specs.Tree.{node_total, parts_of}
use Rattle.tree.proofs.PartWalk.{optional_total, parts_drop}
use Rattle.repetition_rules.specs.Written.{written, written_parts}
use Rattle.repetition_rules.proofs.written.+writing.Given as goal

abbrev pub decreases-push_written : goal.decreases-push_written
decreases-push_written l = 2 * node_total (node_tree l.node)

abbrev pub decreases-push_part : goal.decreases-push_part
decreases-push_part l = 2 * optional_total (option_map node_tree l.part) + 1

abbrev pub invariant-push_written-loop-index : goal.invariant-push_written-loop-index
invariant-push_written-loop-index l =
    string_bytes l.out ++ (written_parts (parts_drop l.index (parts_of (node_tree l.node))) ++ codes ")") ≡ string_bytes l.fn.out ++ written (node_tree l.node)
