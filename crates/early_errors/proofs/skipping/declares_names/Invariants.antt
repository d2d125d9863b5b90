use Rattle.std.proofs.Common.{◌≡◌, Bool}
use Rattle.tree.specs.Node.{node_tree}
use Rattle.tree.specs.Tree.{parts_of, parts_drop}
use Rattle.name_tables.specs.BoundNames.{each_part}
use Rattle.early_errors.specs.Names.{lexical_names}
use Rattle.early_errors.proofs.skipping.declares_names.Given as goal

abbrev pub invariant-loop-index : goal.invariant-loop-index
invariant-loop-index l = (b : Bool) → each_part (lexical_names b) (parts_of (node_tree l.block)) ≡ each_part (lexical_names b) (parts_drop l.index (parts_of (node_tree l.block)))
