use Rattle.std.proofs.Common.{◌≡◌}
use Rattle.tree.specs.Node.{list_parts}
use Rattle.spelling_table.specs.Outlines.{tail_slots, parts_after}
use Rattle.spellings.specs.Remaining.{goes_over}
use Rattle.spellings.proofs.walk.list_fits_by_part.Given as goal

abbrev pub invariant-loop-index : goal.invariant-loop-index
invariant-loop-index l = goes_over (tail_slots l.tail (parts_after l.index (list_parts l.parts))) ≡ goes_over (tail_slots l.fn.tail (parts_after l.fn.from (list_parts l.parts)))
