-- The slots that are taken one by one.
use Rattle.std.proofs.Common.{◌≡◌, ℕ, zero, suc, ◌<◌, List, ◌∷◌, Option, Some, None, refl, sym, ap, ◌∙◌, arith}
use Rattle.tree.specs.Tree.{Tree, Parts, none, part, gap, part_at, part_count}
use Rattle.language.specs.Pieces as piece
use Rattle.spelling_table.specs.declared.first_slots.SlotIndex.{SlotIndex}
use Rattle.spelling_table.specs.declared.first_slots.SlotIndex.TheVariants.{First, Second, Third, Fourth, AfterAll}
use Rattle.spellings.specs.declared.slot_cursor.SlotCursor.{SlotCursor}
use Rattle.spelling_table.specs.declared.position.Slot.{Slot}
use Rattle.spelling_table.specs.declared.outline.FixedSlots.{FixedSlots}
use Rattle.spelling_table.specs.declared.outline.FixedSlots.TheVariants.{Zero, One, Two, Three, Four}
use Rattle.spelling_table.specs.Outlines.{slot_of, parts_after}
use Rattle.spelling_table.specs.Productions.{outline_of}
use Rattle.spellings.specs.Remaining.{front_left, slots_left}
use Rattle.spelling_table.specs.FirstSlots.{first_of, others_of, front_from, slot_at, next_of}
use Rattle.spellings.specs.Cursors.{left_by, TakesSlot}

-- The first slots

same_slot : (a x : Slot) (f g : FixedSlots) (xs : List piece.Slot) → ◌≡◌ {A = Option Slot} (Some x) (Some a) → slot_of a ∷ front_left g xs ≡ slot_of x ∷ front_left g xs
same_slot a x f g xs h = let e : a ≡ x = cc in ap (λ u. slot_of u ∷ front_left g xs) e

front_taken : (f : FixedSlots) (x : Slot) (xs : List piece.Slot) → Some x ≡ first_of f → front_left f xs ≡ slot_of x ∷ front_left (others_of f) xs
front_taken Zero x xs h = absurd (cc)
front_taken (One a) x xs h = same_slot a x (One a) Zero xs h
front_taken (Two a b) x xs h = same_slot a x (Two a b) (One b) xs h
front_taken (Three a b c) x xs h = same_slot a x (Three a b c) (Two b c) xs h
front_taken (Four a b c d) x xs h = same_slot a x (Four a b c d) (Three b c d) xs h

front_over : (f : FixedSlots) (xs : List piece.Slot) → None ≡ first_of f → front_left f xs ≡ xs
front_over Zero xs h = refl
front_over (One a) xs h = absurd (cc)
front_over (Two a b) xs h = absurd (cc)
front_over (Three a b c) xs h = absurd (cc)
front_over (Four a b c d) xs h = absurd (cc)

all_taken : (f : FixedSlots) → Zero ≡ others_of (others_of (others_of (others_of f)))
all_taken Zero = refl
all_taken (One a) = refl
all_taken (Two a b) = refl
all_taken (Three a b c) = refl
all_taken (Four a b c d) = refl

next_front : (o : SlotIndex) (f : FixedSlots) → front_from (next_of o) f ≡ others_of (front_from o f)
next_front First f = refl
next_front Second f = refl
next_front Third f = refl
next_front Fourth f = all_taken f
next_front AfterAll f = refl

-- one of the first ones is taken
pub takes_first : (s t : SlotCursor) (ps : Parts) (x : Slot) → Some x ≡ slot_at (outline_of s.production).front s.ordinal → t ≡ record s { ordinal = next_of s.ordinal } → TakesSlot (left_by s ps) (Some x) (left_by t ps)
takes_first s t ps x h e =
    let f : FixedSlots = (outline_of s.production).front in
    let xs : List piece.Slot = slots_left s.tail (parts_after s.from ps) in
    front_taken (front_from s.ordinal f) x xs h ∙ ap (λ g. slot_of x ∷ front_left g xs) (sym (next_front s.ordinal f)) ∙ ap (λ u. slot_of x ∷ left_by u ps) (sym e)

-- behind them one of the list is
with_none : (xs ys us vs : List piece.Slot) (r : Option Slot) → xs ≡ us → ys ≡ vs → TakesSlot us r vs → TakesSlot xs r ys
with_none xs ys us vs None d e h = d ∙ h
with_none xs ys us vs (Some x) d e h = d ∙ h ∙ ap (λ zs. slot_of x ∷ zs) (sym e)

pub takes_listed : (s t : SlotCursor) (ps : Parts) (r : Option Slot) → None ≡ slot_at (outline_of s.production).front s.ordinal → t.production ≡ s.production → t.ordinal ≡ s.ordinal →
    TakesSlot (slots_left s.tail (parts_after s.from ps)) r (slots_left t.tail (parts_after t.from ps)) → TakesSlot (left_by s ps) r (left_by t ps)
takes_listed s t ps r h p o k =
    let over : None ≡ slot_at (outline_of t.production).front t.ordinal = h ∙ (λ i. slot_at (outline_of (sym p i)).front (sym o i)) in
    with_none _ _ _ _ r (front_over _ _ h) (front_over _ _ over) k

pub some-within : (ps : Parts) (i : ℕ) (u : Tree) → Some u ≡ part_at ps i → i < part_count ps
some-within none i u h = absurd (cc)
some-within (part n ps) zero u h = omega arith
some-within (part n ps) (suc i) u h = omega (arith, some-within ps i u h)
some-within (gap ps) zero u h = absurd (cc)
some-within (gap ps) (suc i) u h = omega (arith, some-within ps i u h)
