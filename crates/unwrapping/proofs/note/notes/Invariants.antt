use Rattle.std.proofs.Common.{take}
use Rattle.tree.specs.Flat.{post_order}
use Rattle.unwrapping.specs.Readings.{AreNoted}
use Rattle.unwrapping.proofs.note.notes.Given as goal

abbrev pub invariant-loop-number : goal.invariant-loop-number
invariant-loop-number l = AreNoted (take l.number (post_order l.program)) 0 l.notes.items
