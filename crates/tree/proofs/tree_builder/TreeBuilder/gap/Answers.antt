use Rattle.tree.proofs.BuiltNodes.{still_open}
use Rattle.tree.proofs.TreesTooLarge.{gap_done, gap_refused, gap_still}
use Rattle.tree.proofs.tree_builder.TreeBuilder.gap.Goals as goal

pub invariant_of-self : goal.invariant_of-self
invariant_of-self c =
    gap_refused c.self.inside.building c.push_hole.new.building c.self.inside.refused c.self.inside.shown.parts _ c.of-self-inside.ensures c.in-Err.error c.in-Err.ensures.refused

pub invariant_of-self-in_default : goal.invariant_of-self-in_default
invariant_of-self-in_default c =
    gap_done c.self.inside.building c.push_hole.new.building c.self.inside.refused c.self.inside.shown.parts _ c.of-self-inside.ensures
    (still_open c.self.inside.refused c.if-is_none.ensures) c.self.invariant c.in_default.ensures.pushed

pub invariant_of-self-else-is_none : goal.invariant_of-self-else-is_none
invariant_of-self-else-is_none c =
    gap_still c.self.inside.building c.self.inside.building c.self.inside.refused c.self.inside.shown.parts _ c.of-self-inside.ensures c.if-is_none.ensures c.self.invariant
