use Rattle.std.proofs.Common.{◌≡◌, ◌++◌}
use Rattle.tree.specs.Node.{node_tree}
use Rattle.tree.specs.Tree.{parts_of, parts_drop}
use Rattle.name_tables.specs.DeclaredNames.{parameter_names}
use Rattle.name_tables.specs.PatternParts.{all_bound, bound_as}
use Rattle.name_tables.proofs.declared.push_parameters.Given as goal

abbrev pub invariant-loop-index : goal.invariant-loop-index
invariant-loop-index g l =
    let ps = parts_of (node_tree l.function) in
    all_bound l.names.items ++ parameter_names (bound_as l.how) (parts_drop l.index ps) ≡ all_bound l.fn.names.items ++ parameter_names (bound_as l.how) (parts_drop l.from ps)
