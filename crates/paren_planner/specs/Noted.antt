-- The steps that a walk over a node notes.
use Rattle.std.specs.Prelude.{◌≡◌, ℕ, Bool, true, false, cond, ◌&&◌, List, [], ◌∷◌, ◌++◌, Some, None}
use Rattle.tree.specs.Tree.{Tree, Parts, none, part, gap, kind_of, parts_of}
use Rattle.language.specs.Pieces.{Role, expr, chain_part, pattern, script, Slot, fixed}
use Rattle.language.specs.RowPositions.{widest, rows}
use Rattle.language.specs.Cost.{least}
use Rattle.spelling_table.specs.declared.outline.FixedSlots.{FixedSlots}
use Rattle.spelling_table.specs.declared.outline.FixedSlots.TheVariants as front
use Rattle.spelling_table.specs.declared.outline.ListSlots as tails
use Rattle.spelling_table.specs.declared.outline.ListSlots.TheVariants as tail
use Rattle.spelling_table.specs.declared.outline.Outline.{Outline}
use Rattle.spelling_table.specs.Outlines.{role_of, slot_of}
use Rattle.spellings.specs.Remaining.{left}
use Rattle.spellings.specs.Wherever.{NodeSpelling, IsSpelledWherever}
use Rattle.paren_planner.specs.declared.steps.NodeStep.{NodeStep}
use Rattle.paren_planner.specs.declared.steps.Step.{Step}
use Rattle.paren_planner.specs.declared.steps.Step.TheVariants.{Free, Passed, Leaf, Enter, Leave}
use Rattle.cost_table.specs.Weighed.{settled_at, slot_free, is_plain_outline}
use Rattle.spelling_table.specs.Requirements.{requirements_of}
use Rattle.cost_table.specs.declared.table.Row.{Row}
use Rattle.cost_table.specs.Rows.{row_of}
use Rattle.paren_planner.specs.Steps.{nowhere, has_row_at}

-- it is a visit to this node, at a slot of a node at a position
pub record IsVisit (a : Role) (s : Slot) (n : Tree) (v : NodeStep) : Type 0 where
  pub kind : v.kind ≡ kind_of n
  pub above : role_of v.above ≡ a
  pub slot : slot_of v.slot ≡ s

-- a position that hands on no symbol, In and start of its own, and takes whatever is spelled there
abbrev pub is_settled : Role → Bool
is_settled (expr y i f) = false
is_settled (chain_part f) = false
is_settled (pattern b f) = false
is_settled a = true

abbrev pub is_settled_slot : Slot → Bool
is_settled_slot (fixed a) = is_settled a
is_settled_slot s = false

-- whether the position is one wherever the node above stands
abbrev pub is_fixed : Slot → Bool
is_fixed (fixed a) = true
is_fixed s = false

abbrev pub are_fixed : List Slot → Bool
are_fixed [] = true
are_fixed (s ∷ ss) = is_fixed s && are_fixed ss

-- all slots of an outline are such, where this is seen at once
abbrev pub fixed_front : FixedSlots → Bool
fixed_front front.Zero = true
fixed_front (front.One a) = is_fixed (slot_of a)
fixed_front (front.Two a b) = is_fixed (slot_of a) && is_fixed (slot_of b)
fixed_front (front.Three a b c) = is_fixed (slot_of a) && (is_fixed (slot_of b) && is_fixed (slot_of c))
fixed_front (front.Four a b c d) = is_fixed (slot_of a) && (is_fixed (slot_of b) && (is_fixed (slot_of c) && is_fixed (slot_of d)))

abbrev pub fixed_tail : tails.ListSlots → Bool
fixed_tail tail.Nothing = true
fixed_tail (tail.Each a) = is_fixed (slot_of a)
fixed_tail (tail.Some a) = is_fixed (slot_of a)
fixed_tail (tail.Prologue r b) = true
fixed_tail t = false

abbrev pub fixed_outline : Outline → Bool
fixed_outline x = fixed_front x.front && fixed_tail x.tail

-- each of these steps is a node that costs nothing
abbrev pub is_free_step : Step → Bool
is_free_step (Free k z) = true
is_free_step (Passed m) = true
is_free_step x = false

abbrev pub are_free : List Step → Bool
are_free [] = true
are_free (x ∷ xs) = is_free_step x && are_free xs

mutual
  -- the steps of a node at a slot of a node at its widest position: none of its own where it costs nothing and has no row, or where it hands on what its parts cost.
  -- Where `may_pass`, a node that costs nothing at its position may be passed: its step then only counts its rows.
  pub data Steps : Bool → Role → Slot → Tree → List Step → Type 0 where
    unspelled : {may_pass : Bool} {a : Role} {s : Slot} {n : Tree} {xs : List Step} (v : NodeStep) → IsVisit a s n v → v.requirements ≡ None → IsSpelledWherever (widest (settled_at a s)) n None → xs ≡ Leaf v ∷ [] → Steps may_pass a s n xs
    alone : {may_pass : Bool} {a : Role} {s : Slot} {n : Tree} {xs : List Step} (v : NodeStep) (x : NodeSpelling) → IsVisit a s n v → v.requirements ≡ Some (requirements_of x.outline) → IsSpelledWherever (widest (settled_at a s)) n (Some x) → parts_of n ≡ none → xs ≡ Leaf v ∷ [] → Steps may_pass a s n xs
    around : {may_pass : Bool} {a : Role} {s : Slot} {n : Tree} {xs : List Step} (v : NodeStep) (x : NodeSpelling) (ys : List Step) → IsVisit a s n v → v.requirements ≡ Some (requirements_of x.outline) → IsSpelledWherever (widest (settled_at a s)) n (Some x) →
        PartsSteps may_pass (widest (settled_at a s)) (left x.slots) (parts_of n) ys → xs ≡ Enter v ∷ (ys ++ Leave ∷ []) → Steps may_pass a s n xs
    costless : {may_pass : Bool} {a : Role} {s : Slot} {n : Tree} {xs : List Step} (x : NodeSpelling) (ys : List Step) → IsSpelledWherever (widest (settled_at a s)) n (Some x) → is_plain_outline x.outline ≡ true → has_row_at s ≡ true → slot_free s x.outline.rank ≡ true →
        PartsSteps may_pass (widest (settled_at a s)) (left x.slots) (parts_of n) ys → are_free ys ≡ true → xs ≡ Free (kind_of n) x.outline.rank ∷ ys → Steps may_pass a s n xs
    hidden : {may_pass : Bool} {a : Role} {s : Slot} {n : Tree} {xs : List Step} (x : NodeSpelling) → IsSpelledWherever (widest (settled_at a s)) n (Some x) → is_plain_outline x.outline ≡ true → parts_of n ≡ none → has_row_at s ≡ false → xs ≡ [] → Steps may_pass a s n xs
    through : {may_pass : Bool} {a : Role} {s : Slot} {n : Tree} {xs : List Step} (x : NodeSpelling) → IsSpelledWherever (widest (settled_at a s)) n (Some x) → is_settled_slot s ≡ true → are_fixed (left x.slots) ≡ true →
        PartsSteps may_pass (widest (settled_at a s)) (left x.slots) (parts_of n) xs → Steps may_pass a s n xs
    passed : {may_pass : Bool} {a : Role} {s : Slot} {n : Tree} {xs : List Step} (m : ℕ) → may_pass ≡ true → is_fixed s ≡ true → least n (settled_at a s) ≡ Some 0 → m ≡ rows n (settled_at a s) → xs ≡ Passed m ∷ [] → Steps may_pass a s n xs

  -- those of parts at these slots
  pub data PartsSteps : Bool → Role → List Slot → Parts → List Step → Type 0 where
    over : {may_pass : Bool} {a : Role} {ss : List Slot} → PartsSteps may_pass a ss none []
    skipped : {may_pass : Bool} {a : Role} {ss : List Slot} {ps : Parts} {xs : List Step} → PartsSteps may_pass a ss ps xs → PartsSteps may_pass a ss (gap ps) xs
    unplaced : {may_pass : Bool} {a : Role} {n : Tree} {ps : Parts} → PartsSteps may_pass a [] (part n ps) (Leaf (nowhere (kind_of n)) ∷ [])
    next : {may_pass : Bool} {a : Role} {s : Slot} {ss : List Slot} {n : Tree} {ps : Parts} {zs : List Step} (xs ys : List Step) → Steps may_pass a s n xs → PartsSteps may_pass a ss ps ys → zs ≡ xs ++ ys → PartsSteps may_pass a (s ∷ ss) (part n ps) zs

-- the row of a node at a slot, where it has one
abbrev pub row_at : Slot → Tree → List Row
row_at s n = cond (has_row_at s) (row_of n ∷ []) []

unfoldable mutual
  -- the rows that these steps make: of a node that is passed there are none
  pub made_rows : {may_pass : Bool} {a : Role} {s : Slot} {n : Tree} {xs : List Step} → Steps may_pass a s n xs → List Row
  made_rows {s = s} {n = n} (unspelled v i l k e) = row_at s n
  made_rows {s = s} {n = n} (alone v x i l k p e) = row_at s n
  made_rows {s = s} {n = n} (around v x ys i l k h e) = row_at s n ++ made_parts h
  made_rows {s = s} {n = n} (costless x ys k p r f h g z) = row_at s n ++ made_parts h
  made_rows (hidden x k p e r z) = []
  made_rows (through x k r g h) = made_parts h
  made_rows (passed m l f z e i) = []

  pub made_parts : {may_pass : Bool} {a : Role} {ss : List Slot} {ps : Parts} {xs : List Step} → PartsSteps may_pass a ss ps xs → List Row
  made_parts over = []
  made_parts (skipped h) = made_parts h
  made_parts unplaced = []
  made_parts (next xs ys p h e) = made_rows p ++ made_parts h

-- what was noted behind earlier steps, and that each of these steps is such a node, where this is known
pub record Noted (may_pass : Bool) (a : Role) (s : Slot) (n : Tree) (known : Bool) (old new : List Step) : Type 0 where
  pub steps : List Step
  pub added : new ≡ old ++ steps
  pub are : Steps may_pass a s n steps
  pub free : known ≡ true → are_free steps ≡ true

pub record PartsNoted (may_pass : Bool) (a : Role) (ss : List Slot) (ps : Parts) (known : Bool) (old new : List Step) : Type 0 where
  pub steps : List Step
  pub added : new ≡ old ++ steps
  pub are : PartsSteps may_pass a ss ps steps
  pub free : known ≡ true → are_free steps ≡ true

-- the steps of a script, and the rows that they make
pub record ScriptSteps (may_pass : Bool) (n : Tree) (xs : List Step) (R : List Row) : Type 0 where
  pub are : Steps may_pass script (fixed script) n xs
  pub rows : R ≡ made_rows are
