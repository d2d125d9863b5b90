use Rattle.std.proofs.Common.{◌≡◌, ◌++◌}
use Rattle.tree.specs.Node.{node_tree}
use Rattle.tree.specs.Tree.{parts_of, parts_drop}
use Rattle.name_tables.specs.BoundNames.{each_part}
use Rattle.repetition_rules.specs.Rows.{entries_of}
use Rattle.repetition_rules.proofs.walk.entries_in.Given as goal

abbrev pub invariant-loop-index : goal.invariant-loop-index
invariant-loop-index l =
    let ps = parts_of (node_tree l.node) in
    l.entries.items ++ each_part (entries_of l.rule) (parts_drop l.index ps) ≡ each_part (entries_of l.rule) ps
