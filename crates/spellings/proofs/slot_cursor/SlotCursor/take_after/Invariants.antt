use Rattle.std.proofs.Common.{◌≡◌}
use Rattle.tree.specs.Node.{list_parts}
use Rattle.spelling_table.specs.Outlines.{parts_after}
use Rattle.spellings.specs.Remaining.{slots_left}
use Rattle.spellings.proofs.slot_cursor.SlotCursor.take_after.Given as goal

abbrev pub invariant-loop-index : goal.invariant-loop-index
invariant-loop-index l = record {
  same : l.self ≡ l.fn.self;
  rest : slots_left l.self.tail (parts_after l.index (list_parts l.parts)) ≡ slots_left l.self.tail (parts_after l.self.from (list_parts l.parts));
}
