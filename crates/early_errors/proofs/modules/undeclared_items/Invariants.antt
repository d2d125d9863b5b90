use Rattle.std.proofs.Common.{◌≡◌}
use Rattle.tree.specs.Node.{node_tree}
use Rattle.tree.specs.Tree.{parts_of, parts_drop}
use Rattle.name_tables.specs.BoundNames.{each_part}
use Rattle.early_errors.specs.declared.EarlyError.TheVariants.{UndeclaredExport}
use Rattle.early_errors.specs.Modules.{locals}
use Rattle.early_errors.specs.Walk.{after, look}
use Rattle.early_errors.proofs.Exports.{passing, unknown}
use Rattle.early_errors.proofs.modules.undeclared_items.Given as goal

abbrev pub invariant-loop-index : goal.invariant-loop-index
invariant-loop-index l =
    after l.found (passing UndeclaredExport (unknown (look l.there)) (each_part locals (parts_drop l.index (parts_of (node_tree l.program))))) ≡ after l.fn.found (passing UndeclaredExport (unknown (look l.there)) (each_part locals (parts_of (node_tree l.program))))
