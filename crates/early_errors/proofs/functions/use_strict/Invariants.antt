use Rattle.std.proofs.Common.{◌≡◌}
use Rattle.tree.specs.Node.{node_tree}
use Rattle.tree.specs.Tree.{parts_of, parts_drop}
use Rattle.early_errors.specs.declared.EarlyError.TheVariants.{UseStrictBehindPattern}
use Rattle.early_errors.specs.Functions.{use_strict}
use Rattle.name_tables.specs.BoundNames.{each_part}
use Rattle.early_errors.specs.Early.{each}
use Rattle.early_errors.specs.Walk.{after}
use Rattle.early_errors.proofs.functions.use_strict.Given as goal

abbrev pub invariant-loop-index : goal.invariant-loop-index
invariant-loop-index l =
    after l.found (each UseStrictBehindPattern (each_part use_strict (parts_drop l.index (parts_of (node_tree l.body))))) ≡ after l.fn.found (each UseStrictBehindPattern (each_part use_strict (parts_of (node_tree l.body))))
