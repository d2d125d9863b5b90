use Rattle.std.proofs.Common.{◌≡◌, false}
use Rattle.tree.specs.Node.{node_tree}
use Rattle.tree.specs.Tree.{parts_of}
use Rattle.early_errors.specs.declared.EarlyError.TheVariants.{DuplicateConstructor}
use Rattle.early_errors.specs.Classes.{constructor_places}
use Rattle.early_errors.specs.Walk.{after}
use Rattle.early_errors.proofs.AllButFirst.{to_come}
use Rattle.early_errors.proofs.classes.constructor_errors.Given as goal

abbrev pub invariant-loop-index : goal.invariant-loop-index
invariant-loop-index l = after l.found (to_come DuplicateConstructor constructor_places l.has_one l.index (parts_of (node_tree l.body))) ≡ after l.fn.found (to_come DuplicateConstructor constructor_places false 0 (parts_of (node_tree l.body)))
