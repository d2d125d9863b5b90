use Rattle.std.proofs.Common.{◌≡◌, ◌-◌}
use Rattle.tree.specs.Node.{node_tree}
use Rattle.tree.specs.Tree.{parts_of}
use Rattle.tree.proofs.PartWalk.{parts_drop}
use Rattle.early_errors.specs.ExportsRead.{first_parts}
use Rattle.early_errors.specs.Modules.{lone_parts}
use Rattle.early_errors.specs.Walk.{after}
use Rattle.early_errors.proofs.Exports.{lone_of}
use Rattle.early_errors.proofs.modules.lone_surrogates.Given as goal

abbrev pub invariant-loop-index : goal.invariant-loop-index
invariant-loop-index l =
    after l.found (lone_of (lone_parts (first_parts (l.count - l.index) (parts_drop l.index (parts_of (node_tree l.node)))))) ≡ after l.fn.found (lone_of (lone_parts (first_parts l.count (parts_of (node_tree l.node)))))
