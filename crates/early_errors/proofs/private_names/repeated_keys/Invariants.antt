use Rattle.std.proofs.Common.{◌≡◌}
use Rattle.tree.specs.Node.{node_tree}
use Rattle.tree.specs.Tree.{parts_of, parts_drop}
use Rattle.name_tables.specs.BoundNames.{each_part}
use Rattle.early_errors.specs.PrivateNames.{declared}
use Rattle.early_errors.specs.PrivateUses.{key_errors}
use Rattle.early_errors.specs.Walk.{after, look}
use Rattle.early_errors.proofs.private_names.repeated_keys.Given as goal

abbrev pub invariant-loop-index : goal.invariant-loop-index
invariant-loop-index l =
    after l.found (key_errors (look l.uses) (look l.seen) (each_part declared (parts_drop l.index (parts_of (node_tree l.body))))) ≡ after l.fn.found (key_errors (look l.uses) (look l.fn.seen) (each_part declared (parts_of (node_tree l.body))))
