-- The slots that a production gives, one by one.
use Rattle.std.specs.Prelude.{◌≡◌, List, [], ◌∷◌, Option, Some, None}
use Rattle.language.specs.Pieces as piece
use Rattle.tree.specs.Tree.{Parts}
use Rattle.spelling_table.specs.declared.first_slots.SlotIndex.TheVariants.{First}
use Rattle.spelling_table.specs.declared.position.Slot.{Slot}
use Rattle.spelling_table.specs.declared.production.Production.{Production}
use Rattle.spelling_table.specs.Outlines.{slot_of, parts_after}
use Rattle.spelling_table.specs.Productions.{outline_of}
use Rattle.spelling_table.specs.FirstSlots.{front_from}
use Rattle.spellings.specs.declared.slot_cursor.SlotCursor.{SlotCursor}
use Rattle.spellings.specs.Remaining.{front_left, slots_left}

-- all slots of a node with this production
abbrev pub cursor_of : Production → SlotCursor
cursor_of p = record { production = p; ordinal = First; tail = (outline_of p).tail; from = (outline_of p).from }

-- the slots that are left, of a node with these parts
abbrev pub left_by : SlotCursor → Parts → List piece.Slot
left_by s ps = front_left (front_from s.ordinal (outline_of s.production).front) (slots_left s.tail (parts_after s.from ps))

-- the first of them was taken, and the others are left; none where none is left
abbrev pub TakesSlot : List piece.Slot → Option Slot → List piece.Slot → Type 0
TakesSlot xs None ys = xs ≡ []
TakesSlot xs (Some s) ys = xs ≡ slot_of s ∷ ys
