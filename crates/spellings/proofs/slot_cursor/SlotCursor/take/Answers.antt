use Rattle.std.proofs.Common.{ap}
use Rattle.tree.specs.Node.{list_parts}
use Rattle.spelling_table.specs.Outlines.{parts_after}
use Rattle.spellings.specs.Remaining.{slots_left}
use Rattle.spellings.proofs.Cursors.{takes_first, takes_listed}
use Rattle.spellings.proofs.slot_cursor.SlotCursor.take.Goals as goal

pub returns-in-Some : goal.returns-in-Some
returns-in-Some c = takes_first c.args.self.now _ (list_parts c.args.parts) c.in-Some.slot c.in-Some.ensures (ap (λ o. record c.args.self.now { ordinal = o }) c.next-self.ensures)

pub take_of_list-requires-clause-next : goal.take_of_list-requires-clause-next
take_of_list-requires-clause-next c = ap (λ i. slots_left c.args.self.now.tail (parts_after i (list_parts c.args.parts))) c.if-self-index.true

pub returns-then-self-index : goal.returns-then-self-index
returns-then-self-index c = takes_listed c.args.self.now c.take_of_list.new.self (list_parts c.args.parts) c.take_of_list.result c.in_default.ensures c.take_of_list.ensures.production c.take_of_list.ensures.ordinal c.take_of_list.ensures.taken

pub returns : goal.returns
returns c = takes_listed c.args.self.now c.take_after.new.self (list_parts c.args.parts) c.take_after.result c.in_default.ensures c.take_after.ensures.production c.take_after.ensures.ordinal c.take_after.ensures.taken
