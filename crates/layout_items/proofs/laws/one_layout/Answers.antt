use Rattle.layout_items.proofs.OneLayout.{at_most_one_layout}
use Rattle.layout_items.proofs.laws.one_layout.Goals as goal

pub returns : goal.returns
returns c = at_most_one_layout
