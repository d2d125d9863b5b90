use Rattle.std.proofs.Common.{◌≡◌}
use Rattle.tree.specs.Node.{list_parts}
use Rattle.spelling_table.specs.Outlines.{parts_after}
use Rattle.spellings.specs.Remaining.{are_whole}
use Rattle.spellings.proofs.walk.is_whole.Given as goal

abbrev pub invariant-loop-index : goal.invariant-loop-index
invariant-loop-index l = are_whole (parts_after l.index (list_parts l.parts)) ≡ are_whole (parts_after l.fn.from (list_parts l.parts))
