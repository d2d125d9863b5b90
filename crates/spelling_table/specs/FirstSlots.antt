-- The first slots, one by one.
use Rattle.std.specs.Prelude.{Option, Some, None}
use Rattle.spelling_table.specs.declared.first_slots.SlotIndex.{SlotIndex}
use Rattle.spelling_table.specs.declared.first_slots.SlotIndex.TheVariants.{First, Second, Third, Fourth, AfterAll}
use Rattle.spelling_table.specs.declared.position.Slot.{Slot}
use Rattle.spelling_table.specs.declared.outline.FixedSlots.{FixedSlots}
use Rattle.spelling_table.specs.declared.outline.FixedSlots.TheVariants.{Zero, One, Two, Three, Four}

-- the first of the first slots, and the others
abbrev pub first_of : FixedSlots → Option Slot
first_of Zero = None
first_of (One a) = Some a
first_of (Two a b) = Some a
first_of (Three a b c) = Some a
first_of (Four a b c d) = Some a

abbrev pub others_of : FixedSlots → FixedSlots
others_of Zero = Zero
others_of (One a) = Zero
others_of (Two a b) = One b
others_of (Three a b c) = Two b c
others_of (Four a b c d) = Three b c d

-- those from an ordinal on
abbrev pub front_from : SlotIndex → FixedSlots → FixedSlots
front_from First f = f
front_from Second f = others_of f
front_from Third f = others_of (others_of f)
front_from Fourth f = others_of (others_of (others_of f))
front_from AfterAll f = Zero

-- the one with an ordinal
abbrev pub slot_at : FixedSlots → SlotIndex → Option Slot
slot_at f o = first_of (front_from o f)

abbrev pub next_of : SlotIndex → SlotIndex
next_of First = Second
next_of Second = Third
next_of Third = Fourth
next_of Fourth = AfterAll
next_of AfterAll = AfterAll
