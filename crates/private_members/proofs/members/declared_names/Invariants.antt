use Rattle.std.proofs.Common.{◌≡◌, ℕ, List}
use Rattle.std.specs.Prelude.{◌||◌}
use Rattle.tree.specs.Node.{node_tree}
use Rattle.tree.specs.Tree.{parts_of, parts_drop}
use Rattle.name_tables.specs.Sets.{contains}
use Rattle.private_members.specs.Uses.{declared_names, has_name}
use Rattle.private_members.proofs.members.declared_names.Given as goal

abbrev pub invariant-loop-index : goal.invariant-loop-index
invariant-loop-index l =
    let ps = parts_of (node_tree l.body) in
    (w : List ℕ) → (contains l.names w || has_name (declared_names (parts_drop l.index ps)) w) ≡ has_name (declared_names ps) w
