use Rattle.std.proofs.Common.{◌≡◌, true}
use Rattle.tree.specs.Node.{list_parts}
use Rattle.tree.specs.Tree.{parts_drop}
use Rattle.mending.specs.declared.change.MendRule.TheVariants.{PreferConst}
use Rattle.mending.specs.Mends.{are_names}
use Rattle.mending.specs.Making.{is_made}
use Rattle.mending.proofs.asked.are_names.Given as goal

abbrev pub invariant-loop-index : goal.invariant-loop-index
invariant-loop-index l =
    are_names (is_made l.changes PreferConst) (parts_drop l.index (list_parts l.declarators)) ≡ true → are_names (is_made l.changes PreferConst) (list_parts l.declarators) ≡ true
