use Rattle.std.proofs.Common.{◌≡◌}
use Rattle.tree.specs.Node.{list_parts}
use Rattle.spelling_table.specs.Outlines.{parts_after}
use Rattle.spellings.specs.Remaining.{are_plain}
use Rattle.spellings.proofs.walk.has_plain.Given as goal

abbrev pub invariant-loop-index : goal.invariant-loop-index
invariant-loop-index l = are_plain (parts_after l.index (list_parts l.parts)) ≡ are_plain (parts_after l.fn.from (list_parts l.parts))
