use Rattle.std.proofs.Common.{◌≡◌, ◌++◌}
use Rattle.tree.specs.Node.{node_tree}
use Rattle.tree.specs.Tree.{parts_of, parts_drop}
use Rattle.name_tables.specs.BoundNames.{each_part}
use Rattle.name_tables.specs.DeclaredNames.{specifier_names}
use Rattle.name_tables.specs.PatternParts.{all_bound, bound_as}
use Rattle.name_tables.proofs.declared.push_specifiers.Given as goal

abbrev pub invariant-loop-index : goal.invariant-loop-index
invariant-loop-index g l =
    let ps = parts_of (node_tree l.import) in
    all_bound l.names.items ++ each_part (specifier_names (bound_as l.how)) (parts_drop l.index ps) ≡ all_bound l.fn.names.items ++ each_part (specifier_names (bound_as l.how)) ps
