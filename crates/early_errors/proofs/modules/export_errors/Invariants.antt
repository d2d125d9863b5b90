use Rattle.std.proofs.Common.{◌≡◌}
use Rattle.tree.specs.Node.{node_tree}
use Rattle.tree.specs.Tree.{parts_of, parts_drop}
use Rattle.name_tables.specs.BoundNames.{each_part}
use Rattle.early_errors.specs.declared.EarlyError.TheVariants.{ExportOfNoName}
use Rattle.early_errors.specs.Modules.{first_tree, is_no_name}
use Rattle.early_errors.specs.Walk.{after}
use Rattle.early_errors.proofs.Exports.{passing}
use Rattle.early_errors.proofs.modules.export_errors.Given as goal

abbrev pub invariant-loop-index : goal.invariant-loop-index
invariant-loop-index l =
    after l.found (passing ExportOfNoName is_no_name (each_part first_tree (parts_drop l.index (parts_of (node_tree l.export))))) ≡ after l.fn.found (passing ExportOfNoName is_no_name (each_part first_tree (parts_drop 1 (parts_of (node_tree l.export)))))
