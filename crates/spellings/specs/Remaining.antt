-- The slots of a node's parts, and what is left of them.
use Rattle.std.specs.Prelude.{Bool, true, false, cond, List, [], ◌∷◌, Option, Some, None}
use Rattle.tree.specs.Tree.{Parts, none, part, gap, kind_of}
use Rattle.language.specs.Vocabulary.{is_rest}
use Rattle.language.specs.Pieces as piece
use Rattle.spelling_table.specs.declared.position.Slot.{Slot}
use Rattle.spelling_table.specs.declared.outline.FixedSlots.{FixedSlots}
use Rattle.spelling_table.specs.declared.outline.FixedSlots.TheVariants.{Zero, One, Two, Three, Four}
use Rattle.spelling_table.specs.declared.outline.ListSlots.{ListSlots}
use Rattle.spelling_table.specs.Outlines.{slot_of, is_over, skips_gap, part_of_tail}

abbrev pub left_of : (ListSlots → List piece.Slot) → Option (Slot × ListSlots) → List piece.Slot
left_of f None = []
left_of f (Some x) = slot_of x.0 ∷ f x.1

-- the positions that a tail gives, as far as it goes
abbrev pub slots_left : ListSlots → Parts → List piece.Slot
slots_left t none = []
slots_left t (gap ps) = cond (is_over t) [] (cond (skips_gap t) (slots_left t ps) [])
slots_left t (part n ps) = cond (is_over t) [] (left_of (λ u. slots_left u ps) (part_of_tail t n ps))

abbrev pub front_left : FixedSlots → List piece.Slot → List piece.Slot
front_left Zero xs = xs
front_left (One a) xs = slot_of a ∷ xs
front_left (Two a b) xs = slot_of a ∷ slot_of b ∷ xs
front_left (Three a b c) xs = slot_of a ∷ slot_of b ∷ slot_of c ∷ xs
front_left (Four a b c d) xs = slot_of a ∷ slot_of b ∷ slot_of c ∷ slot_of d ∷ xs

-- the slots of a node's parts: the first ones, and those of a tail over the parts behind
pub record PartSlots : Type 0 where
  pub front : FixedSlots
  pub tail : ListSlots
  pub parts : Parts

abbrev pub left : PartSlots → List piece.Slot
left p = front_left p.front (slots_left p.tail p.parts)

abbrev pub goes_over : Option (List piece.Slot) → Bool
goes_over None = false
goes_over (Some xs) = true

-- no gap stands among them
abbrev pub are_whole : Parts → Bool
are_whole none = true
are_whole (part n ps) = are_whole ps
are_whole (gap ps) = false

-- neither a gap nor a rest
abbrev pub are_plain : Parts → Bool
are_plain none = true
are_plain (part n ps) = cond (is_rest (kind_of n)) false (are_plain ps)
are_plain (gap ps) = false
