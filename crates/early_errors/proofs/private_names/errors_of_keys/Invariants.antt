use Rattle.std.proofs.Common.{None}
use Rattle.tree.specs.Node.{node_tree}
use Rattle.tree.specs.Tree.{parts_of, parts_drop}
use Rattle.name_tables.specs.BoundNames.{each_part}
use Rattle.name_tables.specs.Tables.{Agree}
use Rattle.early_errors.specs.PrivateNames.{declared}
use Rattle.early_errors.specs.PrivateUses.{noted}
use Rattle.early_errors.specs.Walk.{look}
use Rattle.early_errors.proofs.private_names.errors_of_keys.Given as goal

abbrev pub invariant-loop-index : goal.invariant-loop-index
invariant-loop-index l = Agree (noted (look l.uses) (each_part declared (parts_drop l.index (parts_of (node_tree l.body))))) (noted (λ w. None) (each_part declared (parts_of (node_tree l.body))))
