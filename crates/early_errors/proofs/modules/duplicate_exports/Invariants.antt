use Rattle.std.proofs.Common.{◌≡◌, ◌++◌}
use Rattle.tree.specs.Node.{node_tree}
use Rattle.tree.specs.Tree.{parts_of, parts_drop}
use Rattle.name_tables.specs.BoundNames.{each_part}
use Rattle.early_errors.specs.ExportsRead.{all_exported}
use Rattle.early_errors.specs.Modules.{exported_names}
use Rattle.early_errors.proofs.modules.duplicate_exports.Given as goal

abbrev pub invariant-loop-index : goal.invariant-loop-index
invariant-loop-index l =
    all_exported l.exported.items ++ each_part exported_names (parts_drop l.index (parts_of (node_tree l.program))) ≡ all_exported l.fn.exported.items ++ each_part exported_names (parts_of (node_tree l.program))
