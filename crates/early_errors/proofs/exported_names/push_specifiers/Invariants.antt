use Rattle.std.proofs.Common.{◌≡◌, ◌++◌}
use Rattle.tree.specs.Node.{node_tree}
use Rattle.tree.specs.Tree.{parts_of, parts_drop}
use Rattle.name_tables.specs.BoundNames.{each_part}
use Rattle.early_errors.specs.ExportsRead.{all_exported}
use Rattle.early_errors.specs.Modules.{specifier_name}
use Rattle.early_errors.proofs.exported_names.push_specifiers.Given as goal

abbrev pub invariant-loop-index : goal.invariant-loop-index
invariant-loop-index l =
    all_exported l.names.items ++ each_part specifier_name (parts_drop l.index (parts_of (node_tree l.export))) ≡ all_exported l.fn.names.items ++ each_part specifier_name (parts_drop 1 (parts_of (node_tree l.export)))
