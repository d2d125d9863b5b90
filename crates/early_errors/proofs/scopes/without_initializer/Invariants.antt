use Rattle.std.proofs.Common.{◌≡◌}
use Rattle.tree.specs.Node.{node_tree}
use Rattle.tree.specs.Tree.{parts_of, parts_drop}
use Rattle.early_errors.specs.declared.EarlyError.TheVariants.{ConstWithoutInitializer}
use Rattle.early_errors.specs.Scopes.{without_initializer}
use Rattle.name_tables.specs.BoundNames.{each_part}
use Rattle.early_errors.specs.Early.{each}
use Rattle.early_errors.specs.Walk.{after}
use Rattle.early_errors.proofs.scopes.without_initializer.Given as goal

abbrev pub invariant-loop-index : goal.invariant-loop-index
invariant-loop-index l =
    after l.found (each ConstWithoutInitializer (each_part without_initializer (parts_drop l.index (parts_of (node_tree l.node))))) ≡ after l.fn.found (each ConstWithoutInitializer (each_part without_initializer (parts_of (node_tree l.node))))
