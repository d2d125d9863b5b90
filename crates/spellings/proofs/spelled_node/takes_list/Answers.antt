use Rattle.std.proofs.Common.{◌∙◌}
use Rattle.spelling_table.specs.Outlines.{tail_slots, parts_after}
use Rattle.spellings.specs.Remaining.{goes_over}
use Rattle.spellings.proofs.spelled_node.takes_list.Goals as goal

pub returns : goal.returns
returns c = c.list_fits.ensures ∙ (λ i. goes_over (tail_slots (c.list_of-tail.ensures.tail i) (parts_after (c.list_of-tail.ensures.from i) (c.parts.ensures i))))
