use Rattle.node_parts.specs.Sizes.{size}
use Rattle.layout_choices.proofs.assigned_value.is_short_call.Given as goal

abbrev pub decreases-links : goal.decreases-links
decreases-links l = size l.at
