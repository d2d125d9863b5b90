use Rattle.std.proofs.Common.{◌≡◌}
use Rattle.tree.specs.Tree.{parts_of, parts_drop}
use Rattle.tree.specs.Node.{node_tree}
use Rattle.name_tables.specs.BoundNames.{each_part}
use Rattle.name_tables.specs.Keys.{identifier_name, read_names}
use Rattle.name_tables.proofs.key.add_declarable_names.Given as goal

abbrev pub invariant-loop-index : goal.invariant-loop-index
invariant-loop-index l =
    let ps = parts_of (node_tree l.node) in
    read_names l.builder.hasher (each_part identifier_name (parts_drop l.index ps)) ≡ read_names l.fn.builder.hasher (each_part identifier_name ps)
