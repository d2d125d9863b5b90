use Rattle.node_parts.specs.Sizes.{size}
use Rattle.layout_choices.proofs.assigned_value.is_member_chain.Given as goal

abbrev pub decreases-members : goal.decreases-members
decreases-members l = size l.at
