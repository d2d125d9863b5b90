-- Worked examples: the definitions hold of worked rows.
use Rattle.std.proofs.Common.{◌≡◌, ℕ, true, false, List, [], ◌∷◌, refl}
use Rattle.layout_items.specs.declared.form.Form.{Form}
use Rattle.layout_items.specs.declared.form.Form.TheVariants.{Flat, Joined, Cut}
use Rattle.layout_items.specs.declared.item.Item.{Item}
use Rattle.layout_items.specs.declared.item.Item.TheVariants.{Piece, IfBroken, IfCut, IfJoined, Lines, LastOnLine, Space, Line, SoftLine, HardLine, Forced, Kept, GroupStart, GroupEnd, WideStart, IndentStart, IndentEnd, HangStart, HangEnd, ChoiceStart, ChoiceEnd, HeadEnd, CutLine, CutSoftLine, CutIndentStart, CutIndentEnd, JoinStart, JoinedSoftLine}
use Rattle.layout_items.specs.declared.style.Style.{Style}
use Rattle.layout_items.specs.Places.{beginning}
use Rattle.layout_items.specs.Layout.{are_right}
use Rattle.layout_items.specs.Reach.{holds, columns_to_break, has_part, is_forced_behind, is_forced_beside, is_forced_before_cut, is_forced_behind_head, first_line}

abbrev style : ℕ → Style
style width = record { width = width; indent = 2; tabs = false }

abbrev right : ℕ → List Item → List Form → Type 0
right width items forms = are_right (style width) (beginning (style width)) [] items forms ≡ true

abbrev Row1 : Item → Type 0
Row1 (Piece t c) = right 4 (GroupStart ∷ (Piece t 1) ∷ Line ∷ (Piece t 2) ∷ GroupEnd ∷ []) (Flat ∷ [])
Row1 i = Unit {0}

pub row1 : (i : Item) → Row1 i
unfolding are_right holds columns_to_break first_line has_part is_forced_behind is_forced_beside is_forced_before_cut is_forced_behind_head
row1 (Piece t c) = refl
row1 i = tt

abbrev Row2 : Item → Type 0
Row2 (Piece t c) = right 3 (GroupStart ∷ (Piece t 1) ∷ Line ∷ (Piece t 2) ∷ GroupEnd ∷ []) (Cut ∷ [])
Row2 i = Unit {0}

pub row2 : (i : Item) → Row2 i
unfolding are_right holds columns_to_break first_line has_part is_forced_behind is_forced_beside is_forced_before_cut is_forced_behind_head
row2 (Piece t c) = refl
row2 i = tt

abbrev Row3 : Item → Type 0
Row3 (Piece t c) = right 3 (GroupStart ∷ (Piece t 1) ∷ SoftLine ∷ (Piece t 2) ∷ GroupEnd ∷ []) (Flat ∷ [])
Row3 i = Unit {0}

pub row3 : (i : Item) → Row3 i
unfolding are_right holds columns_to_break first_line has_part is_forced_behind is_forced_beside is_forced_before_cut is_forced_behind_head
row3 (Piece t c) = refl
row3 i = tt

abbrev Row4 : Item → Type 0
Row4 (Piece t c) = right 2 (GroupStart ∷ (Piece t 1) ∷ SoftLine ∷ (Piece t 2) ∷ GroupEnd ∷ []) (Cut ∷ [])
Row4 i = Unit {0}

pub row4 : (i : Item) → Row4 i
unfolding are_right holds columns_to_break first_line has_part is_forced_behind is_forced_beside is_forced_before_cut is_forced_behind_head
row4 (Piece t c) = refl
row4 i = tt

abbrev Row5 : Item → Type 0
Row5 (Piece t c) = right 7 (GroupStart ∷ (Piece t 1) ∷ Line ∷ (Piece t 2) ∷ GroupEnd ∷ (Piece t 3) ∷ []) (Flat ∷ [])
Row5 i = Unit {0}

pub row5 : (i : Item) → Row5 i
unfolding are_right holds columns_to_break first_line has_part is_forced_behind is_forced_beside is_forced_before_cut is_forced_behind_head
row5 (Piece t c) = refl
row5 i = tt

abbrev Row6 : Item → Type 0
Row6 (Piece t c) = right 6 (GroupStart ∷ (Piece t 1) ∷ Line ∷ (Piece t 2) ∷ GroupEnd ∷ (Piece t 3) ∷ []) (Cut ∷ [])
Row6 i = Unit {0}

pub row6 : (i : Item) → Row6 i
unfolding are_right holds columns_to_break first_line has_part is_forced_behind is_forced_beside is_forced_before_cut is_forced_behind_head
row6 (Piece t c) = refl
row6 i = tt

abbrev Row7 : Item → Type 0
Row7 (Piece t c) = right 7 (GroupStart ∷ (Piece t 1) ∷ Line ∷ (Piece t 2) ∷ GroupEnd ∷ (Piece t 3) ∷ Line ∷ (Piece t 4) ∷ []) (Flat ∷ [])
Row7 i = Unit {0}

pub row7 : (i : Item) → Row7 i
unfolding are_right holds columns_to_break first_line has_part is_forced_behind is_forced_beside is_forced_before_cut is_forced_behind_head
row7 (Piece t c) = refl
row7 i = tt

abbrev Row8 : Item → Type 0
Row8 (Piece t c) = right 7 (GroupStart ∷ (Piece t 1) ∷ Line ∷ (Piece t 2) ∷ GroupEnd ∷ GroupStart ∷ (Piece t 3) ∷ Line ∷ (Piece t 4) ∷ GroupEnd ∷ []) (Flat ∷ Cut ∷ [])
Row8 i = Unit {0}

pub row8 : (i : Item) → Row8 i
unfolding are_right holds columns_to_break first_line has_part is_forced_behind is_forced_beside is_forced_before_cut is_forced_behind_head
row8 (Piece t c) = refl
row8 i = tt

abbrev Row9 : Item → Type 0
Row9 (Piece t c) = right 6 (GroupStart ∷ (Piece t 1) ∷ Line ∷ (Piece t 2) ∷ GroupEnd ∷ GroupStart ∷ (Piece t 3) ∷ Line ∷ (Piece t 4) ∷ GroupEnd ∷ []) (Cut ∷ Cut ∷ [])
Row9 i = Unit {0}

pub row9 : (i : Item) → Row9 i
unfolding are_right holds columns_to_break first_line has_part is_forced_behind is_forced_beside is_forced_before_cut is_forced_behind_head
row9 (Piece t c) = refl
row9 i = tt

abbrev Row10 : Item → Type 0
Row10 (Piece t c) = right 7 (GroupStart ∷ GroupStart ∷ (Piece t 1) ∷ Line ∷ (Piece t 2) ∷ GroupEnd ∷ (Piece t 3) ∷ Line ∷ (Piece t 4) ∷ GroupEnd ∷ []) (Cut ∷ Flat ∷ [])
Row10 i = Unit {0}

pub row10 : (i : Item) → Row10 i
unfolding are_right holds columns_to_break first_line has_part is_forced_behind is_forced_beside is_forced_before_cut is_forced_behind_head
row10 (Piece t c) = refl
row10 i = tt

abbrev Row11 : Item → Type 0
Row11 (Piece t c) = right 8 (GroupStart ∷ (Piece t 1) ∷ Line ∷ (Piece t 2) ∷ GroupEnd ∷ Space ∷ (Piece t 3) ∷ HardLine ∷ []) (Flat ∷ [])
Row11 i = Unit {0}

pub row11 : (i : Item) → Row11 i
unfolding are_right holds columns_to_break first_line has_part is_forced_behind is_forced_beside is_forced_before_cut is_forced_behind_head
row11 (Piece t c) = refl
row11 i = tt

abbrev Row12 : Item → Type 0
Row12 (Piece t c) = right 7 (GroupStart ∷ (Piece t 1) ∷ Line ∷ (Piece t 2) ∷ GroupEnd ∷ Space ∷ (Piece t 3) ∷ HardLine ∷ []) (Cut ∷ [])
Row12 i = Unit {0}

pub row12 : (i : Item) → Row12 i
unfolding are_right holds columns_to_break first_line has_part is_forced_behind is_forced_beside is_forced_before_cut is_forced_behind_head
row12 (Piece t c) = refl
row12 i = tt

abbrev Row13 : Item → Type 0
Row13 (Piece t c) = right 8 (GroupStart ∷ (Piece t 1) ∷ Line ∷ GroupStart ∷ (Piece t 2) ∷ Line ∷ (Piece t 3) ∷ GroupEnd ∷ GroupEnd ∷ []) (Flat ∷ Flat ∷ [])
Row13 i = Unit {0}

pub row13 : (i : Item) → Row13 i
unfolding are_right holds columns_to_break first_line has_part is_forced_behind is_forced_beside is_forced_before_cut is_forced_behind_head
row13 (Piece t c) = refl
row13 i = tt

abbrev Row14 : Item → Type 0
Row14 (Piece t c) = right 7 (GroupStart ∷ (Piece t 1) ∷ Line ∷ GroupStart ∷ (Piece t 2) ∷ Line ∷ (Piece t 3) ∷ GroupEnd ∷ GroupEnd ∷ []) (Cut ∷ Flat ∷ [])
Row14 i = Unit {0}

pub row14 : (i : Item) → Row14 i
unfolding are_right holds columns_to_break first_line has_part is_forced_behind is_forced_beside is_forced_before_cut is_forced_behind_head
row14 (Piece t c) = refl
row14 i = tt

abbrev Row15 : Item → Type 0
Row15 (Piece t c) = right 5 (GroupStart ∷ (Piece t 1) ∷ Line ∷ GroupStart ∷ (Piece t 2) ∷ Line ∷ (Piece t 3) ∷ GroupEnd ∷ GroupEnd ∷ []) (Cut ∷ Cut ∷ [])
Row15 i = Unit {0}

pub row15 : (i : Item) → Row15 i
unfolding are_right holds columns_to_break first_line has_part is_forced_behind is_forced_beside is_forced_before_cut is_forced_behind_head
row15 (Piece t c) = refl
row15 i = tt

abbrev Row16 : Item → Type 0
Row16 (Piece t c) = right 80 (GroupStart ∷ (Piece t 1) ∷ Line ∷ GroupStart ∷ (Piece t 2) ∷ HardLine ∷ (Piece t 3) ∷ GroupEnd ∷ Line ∷ (Piece t 4) ∷ GroupStart ∷ (Piece t 1) ∷ Line ∷ (Piece t 1) ∷ GroupEnd ∷ GroupEnd ∷ []) (Cut ∷ Cut ∷ Flat ∷ [])
Row16 i = Unit {0}

pub row16 : (i : Item) → Row16 i
unfolding are_right holds columns_to_break first_line has_part is_forced_behind is_forced_beside is_forced_before_cut is_forced_behind_head
row16 (Piece t c) = refl
row16 i = tt

abbrev Row17 : Item → Type 0
Row17 (Piece t c) = right 80 (GroupStart ∷ (Piece t 1) ∷ Line ∷ (Piece t 2) ∷ Forced ∷ GroupEnd ∷ []) (Cut ∷ [])
Row17 i = Unit {0}

pub row17 : (i : Item) → Row17 i
unfolding are_right holds columns_to_break first_line has_part is_forced_behind is_forced_beside is_forced_before_cut is_forced_behind_head
row17 (Piece t c) = refl
row17 i = tt

abbrev Row18 : Item → Type 0
Row18 (Piece t c) = right 80 (GroupStart ∷ (Piece t 1) ∷ Line ∷ (Piece t 2) ∷ GroupEnd ∷ Forced ∷ []) (Flat ∷ [])
Row18 i = Unit {0}

pub row18 : (i : Item) → Row18 i
unfolding are_right holds columns_to_break first_line has_part is_forced_behind is_forced_beside is_forced_before_cut is_forced_behind_head
row18 (Piece t c) = refl
row18 i = tt

abbrev Row19 : Item → Type 0
Row19 (Piece t c) = right 80 (GroupStart ∷ (Piece t 1) ∷ (IfBroken t 1) ∷ SoftLine ∷ GroupEnd ∷ []) (Flat ∷ [])
Row19 i = Unit {0}

pub row19 : (i : Item) → Row19 i
unfolding are_right holds columns_to_break first_line has_part is_forced_behind is_forced_beside is_forced_before_cut is_forced_behind_head
row19 (Piece t c) = refl
row19 i = tt

abbrev Row20 : Item → Type 0
Row20 (Piece t c) = right 80 (GroupStart ∷ (Piece t 1) ∷ (IfBroken t 1) ∷ SoftLine ∷ HardLine ∷ GroupEnd ∷ []) (Cut ∷ [])
Row20 i = Unit {0}

pub row20 : (i : Item) → Row20 i
unfolding are_right holds columns_to_break first_line has_part is_forced_behind is_forced_beside is_forced_before_cut is_forced_behind_head
row20 (Piece t c) = refl
row20 i = tt

abbrev Row21 : Item → Type 0
Row21 (Piece t c) = right 5 (GroupStart ∷ GroupStart ∷ (Piece t 1) ∷ Line ∷ (Piece t 2) ∷ GroupEnd ∷ (IfBroken t 1) ∷ SoftLine ∷ (Piece t 3) ∷ HardLine ∷ GroupEnd ∷ []) (Cut ∷ Flat ∷ [])
Row21 i = Unit {0}

pub row21 : (i : Item) → Row21 i
unfolding are_right holds columns_to_break first_line has_part is_forced_behind is_forced_beside is_forced_before_cut is_forced_behind_head
row21 (Piece t c) = refl
row21 i = tt

abbrev Row22 : Item → Type 0
Row22 (Piece t c) = right 4 (GroupStart ∷ GroupStart ∷ (Piece t 1) ∷ Line ∷ (Piece t 2) ∷ GroupEnd ∷ (IfBroken t 1) ∷ SoftLine ∷ (Piece t 3) ∷ HardLine ∷ GroupEnd ∷ []) (Cut ∷ Cut ∷ [])
Row22 i = Unit {0}

pub row22 : (i : Item) → Row22 i
unfolding are_right holds columns_to_break first_line has_part is_forced_behind is_forced_beside is_forced_before_cut is_forced_behind_head
row22 (Piece t c) = refl
row22 i = tt

abbrev Row23 : Item → Type 0
Row23 (Piece t c) = right 4 (GroupStart ∷ (Piece t 1) ∷ Line ∷ (Piece t 2) ∷ GroupEnd ∷ (LastOnLine t) ∷ (Piece t 3) ∷ []) (Flat ∷ [])
Row23 i = Unit {0}

pub row23 : (i : Item) → Row23 i
unfolding are_right holds columns_to_break first_line has_part is_forced_behind is_forced_beside is_forced_before_cut is_forced_behind_head
row23 (Piece t c) = refl
row23 i = tt

abbrev Row24 : Item → Type 0
Row24 (Piece t c) = right 3 (GroupStart ∷ (Piece t 1) ∷ Line ∷ (Piece t 2) ∷ GroupEnd ∷ (LastOnLine t) ∷ (Piece t 3) ∷ []) (Cut ∷ [])
Row24 i = Unit {0}

pub row24 : (i : Item) → Row24 i
unfolding are_right holds columns_to_break first_line has_part is_forced_behind is_forced_beside is_forced_before_cut is_forced_behind_head
row24 (Piece t c) = refl
row24 i = tt

abbrev Row25 : Item → Type 0
Row25 (Piece t c) = right 80 (GroupStart ∷ (Piece t 1) ∷ Line ∷ (Piece t 2) ∷ (LastOnLine t) ∷ GroupEnd ∷ []) (Cut ∷ [])
Row25 i = Unit {0}

pub row25 : (i : Item) → Row25 i
unfolding are_right holds columns_to_break first_line has_part is_forced_behind is_forced_beside is_forced_before_cut is_forced_behind_head
row25 (Piece t c) = refl
row25 i = tt

abbrev Row26 : Item → Type 0
Row26 (Piece t c) = right 80 ((Piece t 1) ∷ (LastOnLine t) ∷ GroupStart ∷ Line ∷ (Piece t 2) ∷ GroupEnd ∷ []) (Flat ∷ [])
Row26 i = Unit {0}

pub row26 : (i : Item) → Row26 i
unfolding are_right holds columns_to_break first_line has_part is_forced_behind is_forced_beside is_forced_before_cut is_forced_behind_head
row26 (Piece t c) = refl
row26 i = tt

abbrev Row27 : Item → Type 0
Row27 (Piece t c) = right 5 (GroupStart ∷ (Piece t 1) ∷ Line ∷ (Piece t 2) ∷ GroupEnd ∷ (Lines t 1 4) ∷ []) (Flat ∷ [])
Row27 i = Unit {0}

pub row27 : (i : Item) → Row27 i
unfolding are_right holds columns_to_break first_line has_part is_forced_behind is_forced_beside is_forced_before_cut is_forced_behind_head
row27 (Piece t c) = refl
row27 i = tt

abbrev Row28 : Item → Type 0
Row28 (Piece t c) = right 4 (GroupStart ∷ (Piece t 1) ∷ Line ∷ (Piece t 2) ∷ GroupEnd ∷ (Lines t 1 4) ∷ []) (Cut ∷ [])
Row28 i = Unit {0}

pub row28 : (i : Item) → Row28 i
unfolding are_right holds columns_to_break first_line has_part is_forced_behind is_forced_beside is_forced_before_cut is_forced_behind_head
row28 (Piece t c) = refl
row28 i = tt

abbrev Row29 : Item → Type 0
Row29 (Piece t c) = right 8 ((Lines t 1 4) ∷ GroupStart ∷ (Piece t 1) ∷ Line ∷ (Piece t 2) ∷ GroupEnd ∷ []) (Flat ∷ [])
Row29 i = Unit {0}

pub row29 : (i : Item) → Row29 i
unfolding are_right holds columns_to_break first_line has_part is_forced_behind is_forced_beside is_forced_before_cut is_forced_behind_head
row29 (Piece t c) = refl
row29 i = tt

abbrev Row30 : Item → Type 0
Row30 (Piece t c) = right 7 ((Lines t 1 4) ∷ GroupStart ∷ (Piece t 1) ∷ Line ∷ (Piece t 2) ∷ GroupEnd ∷ []) (Cut ∷ [])
Row30 i = Unit {0}

pub row30 : (i : Item) → Row30 i
unfolding are_right holds columns_to_break first_line has_part is_forced_behind is_forced_beside is_forced_before_cut is_forced_behind_head
row30 (Piece t c) = refl
row30 i = tt

abbrev Row31 : Item → Type 0
Row31 (Piece t c) = right 80 (GroupStart ∷ (Piece t 1) ∷ Line ∷ (Lines t 1 4) ∷ GroupEnd ∷ []) (Cut ∷ [])
Row31 i = Unit {0}

pub row31 : (i : Item) → Row31 i
unfolding are_right holds columns_to_break first_line has_part is_forced_behind is_forced_beside is_forced_before_cut is_forced_behind_head
row31 (Piece t c) = refl
row31 i = tt

abbrev Row32 : Item → Type 0
Row32 (Piece t c) = right 3 (GroupStart ∷ (Piece t 1) ∷ IndentStart ∷ Line ∷ (Piece t 2) ∷ IndentEnd ∷ Line ∷ (Piece t 3) ∷ GroupEnd ∷ []) (Cut ∷ [])
Row32 i = Unit {0}

pub row32 : (i : Item) → Row32 i
unfolding are_right holds columns_to_break first_line has_part is_forced_behind is_forced_beside is_forced_before_cut is_forced_behind_head
row32 (Piece t c) = refl
row32 i = tt

abbrev Row33 : Item → Type 0
Row33 (Piece t c) = right 7 (GroupStart ∷ (Piece t 1) ∷ IndentStart ∷ SoftLine ∷ GroupStart ∷ (Piece t 2) ∷ SoftLine ∷ (Piece t 3) ∷ GroupEnd ∷ IndentEnd ∷ Forced ∷ GroupEnd ∷ []) (Cut ∷ Flat ∷ [])
Row33 i = Unit {0}

pub row33 : (i : Item) → Row33 i
unfolding are_right holds columns_to_break first_line has_part is_forced_behind is_forced_beside is_forced_before_cut is_forced_behind_head
row33 (Piece t c) = refl
row33 i = tt

abbrev Row34 : Item → Type 0
Row34 (Piece t c) = right 6 (GroupStart ∷ (Piece t 1) ∷ IndentStart ∷ SoftLine ∷ GroupStart ∷ (Piece t 2) ∷ SoftLine ∷ (Piece t 3) ∷ GroupEnd ∷ IndentEnd ∷ Forced ∷ GroupEnd ∷ []) (Cut ∷ Cut ∷ [])
Row34 i = Unit {0}

pub row34 : (i : Item) → Row34 i
unfolding are_right holds columns_to_break first_line has_part is_forced_behind is_forced_beside is_forced_before_cut is_forced_behind_head
row34 (Piece t c) = refl
row34 i = tt

abbrev Row35 : Item → Type 0
Row35 (Piece t c) = right 5 ((Piece t 1) ∷ HardLine ∷ GroupStart ∷ IndentStart ∷ (Piece t 2) ∷ SoftLine ∷ (Piece t 3) ∷ IndentEnd ∷ GroupEnd ∷ []) (Flat ∷ [])
Row35 i = Unit {0}

pub row35 : (i : Item) → Row35 i
unfolding are_right holds columns_to_break first_line has_part is_forced_behind is_forced_beside is_forced_before_cut is_forced_behind_head
row35 (Piece t c) = refl
row35 i = tt

abbrev Row36 : Item → Type 0
Row36 (Piece t c) = right 4 ((Piece t 1) ∷ HardLine ∷ GroupStart ∷ IndentStart ∷ (Piece t 2) ∷ SoftLine ∷ (Piece t 3) ∷ IndentEnd ∷ GroupEnd ∷ []) (Cut ∷ [])
Row36 i = Unit {0}

pub row36 : (i : Item) → Row36 i
unfolding are_right holds columns_to_break first_line has_part is_forced_behind is_forced_beside is_forced_before_cut is_forced_behind_head
row36 (Piece t c) = refl
row36 i = tt

abbrev Row37 : Item → Type 0
Row37 (Piece t c) = right 80 ((Piece t 1) ∷ IndentStart ∷ HardLine ∷ IndentEnd ∷ GroupStart ∷ (Piece t 2) ∷ SoftLine ∷ (Piece t 3) ∷ GroupEnd ∷ []) (Flat ∷ [])
Row37 i = Unit {0}

pub row37 : (i : Item) → Row37 i
unfolding are_right holds columns_to_break first_line has_part is_forced_behind is_forced_beside is_forced_before_cut is_forced_behind_head
row37 (Piece t c) = refl
row37 i = tt

abbrev Row38 : Item → Type 0
Row38 (Piece t c) = right 7 ((Piece t 1) ∷ GroupStart ∷ IndentStart ∷ Line ∷ IndentEnd ∷ GroupEnd ∷ HangStart ∷ GroupStart ∷ (Piece t 2) ∷ SoftLine ∷ (Piece t 3) ∷ GroupEnd ∷ HangEnd ∷ HardLine ∷ (Piece t 4) ∷ []) (Flat ∷ Flat ∷ [])
Row38 i = Unit {0}

pub row38 : (i : Item) → Row38 i
unfolding are_right holds columns_to_break first_line has_part is_forced_behind is_forced_beside is_forced_before_cut is_forced_behind_head
row38 (Piece t c) = refl
row38 i = tt

abbrev Row39 : Item → Type 0
Row39 (Piece t c) = right 4 ((Piece t 1) ∷ GroupStart ∷ IndentStart ∷ Line ∷ IndentEnd ∷ GroupEnd ∷ HangStart ∷ GroupStart ∷ (Piece t 2) ∷ SoftLine ∷ (Piece t 3) ∷ GroupEnd ∷ HangEnd ∷ HardLine ∷ (Piece t 4) ∷ []) (Flat ∷ Cut ∷ [])
Row39 i = Unit {0}

pub row39 : (i : Item) → Row39 i
unfolding are_right holds columns_to_break first_line has_part is_forced_behind is_forced_beside is_forced_before_cut is_forced_behind_head
row39 (Piece t c) = refl
row39 i = tt

abbrev Row40 : Item → Type 0
Row40 (Piece t c) = right 3 ((Piece t 1) ∷ GroupStart ∷ IndentStart ∷ Line ∷ IndentEnd ∷ GroupEnd ∷ HangStart ∷ GroupStart ∷ (Piece t 2) ∷ SoftLine ∷ (Piece t 3) ∷ GroupEnd ∷ HangEnd ∷ HardLine ∷ (Piece t 4) ∷ []) (Cut ∷ Cut ∷ [])
Row40 i = Unit {0}

pub row40 : (i : Item) → Row40 i
unfolding are_right holds columns_to_break first_line has_part is_forced_behind is_forced_beside is_forced_before_cut is_forced_behind_head
row40 (Piece t c) = refl
row40 i = tt

abbrev Row41 : Item → Type 0
Row41 (Piece t c) = right 4 (GroupStart ∷ (Piece t 1) ∷ GroupStart ∷ IndentStart ∷ Line ∷ IndentEnd ∷ GroupEnd ∷ HangStart ∷ (Piece t 2) ∷ HardLine ∷ (Piece t 3) ∷ HangEnd ∷ GroupEnd ∷ HardLine ∷ (Piece t 4) ∷ []) (Cut ∷ Flat ∷ [])
Row41 i = Unit {0}

pub row41 : (i : Item) → Row41 i
unfolding are_right holds columns_to_break first_line has_part is_forced_behind is_forced_beside is_forced_before_cut is_forced_behind_head
row41 (Piece t c) = refl
row41 i = tt

abbrev Row42 : Item → Type 0
Row42 (Piece t c) = right 3 (GroupStart ∷ (Piece t 1) ∷ GroupStart ∷ IndentStart ∷ Line ∷ IndentEnd ∷ GroupEnd ∷ HangStart ∷ (Piece t 2) ∷ HardLine ∷ (Piece t 3) ∷ HangEnd ∷ GroupEnd ∷ HardLine ∷ (Piece t 4) ∷ []) (Cut ∷ Cut ∷ [])
Row42 i = Unit {0}

pub row42 : (i : Item) → Row42 i
unfolding are_right holds columns_to_break first_line has_part is_forced_behind is_forced_beside is_forced_before_cut is_forced_behind_head
row42 (Piece t c) = refl
row42 i = tt

abbrev Row43 : Item → Type 0
Row43 (Piece t c) = right 1 ((Piece t 1) ∷ GroupStart ∷ Line ∷ GroupEnd ∷ HangStart ∷ GroupStart ∷ IndentStart ∷ Line ∷ IndentEnd ∷ GroupEnd ∷ HangStart ∷ (Piece t 2) ∷ HardLine ∷ (Piece t 3) ∷ HangEnd ∷ HangEnd ∷ HardLine ∷ (Piece t 4) ∷ []) (Cut ∷ Cut ∷ [])
Row43 i = Unit {0}

pub row43 : (i : Item) → Row43 i
unfolding are_right holds columns_to_break first_line has_part is_forced_behind is_forced_beside is_forced_before_cut is_forced_behind_head
row43 (Piece t c) = refl
row43 i = tt

abbrev Row44 : Item → Type 0
Row44 (Piece t c) = right 2 (WideStart ∷ (Piece t 1) ∷ Line ∷ (Piece t 2) ∷ GroupEnd ∷ []) (Flat ∷ [])
Row44 i = Unit {0}

pub row44 : (i : Item) → Row44 i
unfolding are_right holds columns_to_break first_line has_part is_forced_behind is_forced_beside is_forced_before_cut is_forced_behind_head
row44 (Piece t c) = refl
row44 i = tt

abbrev Row45 : Item → Type 0
Row45 (Piece t c) = right 80 (WideStart ∷ (Piece t 1) ∷ Line ∷ (Piece t 2) ∷ Forced ∷ GroupEnd ∷ []) (Cut ∷ [])
Row45 i = Unit {0}

pub row45 : (i : Item) → Row45 i
unfolding are_right holds columns_to_break first_line has_part is_forced_behind is_forced_beside is_forced_before_cut is_forced_behind_head
row45 (Piece t c) = refl
row45 i = tt

abbrev Row46 : Item → Type 0
Row46 (Piece t c) = right 6 (GroupStart ∷ WideStart ∷ (Piece t 1) ∷ SoftLine ∷ (Piece t 2) ∷ GroupEnd ∷ Line ∷ (Piece t 3) ∷ GroupEnd ∷ []) (Cut ∷ Flat ∷ [])
Row46 i = Unit {0}

pub row46 : (i : Item) → Row46 i
unfolding are_right holds columns_to_break first_line has_part is_forced_behind is_forced_beside is_forced_before_cut is_forced_behind_head
row46 (Piece t c) = refl
row46 i = tt

abbrev Row47 : Item → Type 0
Row47 (Piece t c) = right 10 (GroupStart ∷ (Piece t 3) ∷ Line ∷ (Piece t 1) ∷ GroupEnd ∷ WideStart ∷ SoftLine ∷ (Piece t 2) ∷ GroupEnd ∷ (Piece t 3) ∷ Line ∷ (Piece t 4) ∷ []) (Flat ∷ Flat ∷ [])
Row47 i = Unit {0}

pub row47 : (i : Item) → Row47 i
unfolding are_right holds columns_to_break first_line has_part is_forced_behind is_forced_beside is_forced_before_cut is_forced_behind_head
row47 (Piece t c) = refl
row47 i = tt

abbrev Row48 : Item → Type 0
Row48 (Piece t c) = right 9 (GroupStart ∷ (Piece t 3) ∷ Line ∷ (Piece t 1) ∷ GroupEnd ∷ WideStart ∷ SoftLine ∷ (Piece t 2) ∷ GroupEnd ∷ (Piece t 3) ∷ Line ∷ (Piece t 4) ∷ []) (Cut ∷ Flat ∷ [])
Row48 i = Unit {0}

pub row48 : (i : Item) → Row48 i
unfolding are_right holds columns_to_break first_line has_part is_forced_behind is_forced_beside is_forced_before_cut is_forced_behind_head
row48 (Piece t c) = refl
row48 i = tt

abbrev Row49 : Item → Type 0
Row49 (Piece t c) = right 11 (ChoiceStart ∷ (Piece t 1) ∷ CutIndentStart ∷ CutSoftLine ∷ (Piece t 2) ∷ CutLine ∷ (Piece t 3) ∷ (IfCut t 1) ∷ CutIndentEnd ∷ CutSoftLine ∷ (Piece t 4) ∷ ChoiceEnd ∷ []) (Flat ∷ [])
Row49 i = Unit {0}

pub row49 : (i : Item) → Row49 i
unfolding are_right holds columns_to_break first_line has_part is_forced_behind is_forced_beside is_forced_before_cut is_forced_behind_head
row49 (Piece t c) = refl
row49 i = tt

abbrev Row50 : Item → Type 0
Row50 (Piece t c) = right 10 (ChoiceStart ∷ (Piece t 1) ∷ CutIndentStart ∷ CutSoftLine ∷ (Piece t 2) ∷ CutLine ∷ (Piece t 3) ∷ (IfCut t 1) ∷ CutIndentEnd ∷ CutSoftLine ∷ (Piece t 4) ∷ ChoiceEnd ∷ []) (Cut ∷ [])
Row50 i = Unit {0}

pub row50 : (i : Item) → Row50 i
unfolding are_right holds columns_to_break first_line has_part is_forced_behind is_forced_beside is_forced_before_cut is_forced_behind_head
row50 (Piece t c) = refl
row50 i = tt

abbrev Row51 : Item → Type 0
Row51 (Piece t c) = right 11 (GroupStart ∷ Line ∷ ChoiceStart ∷ (Piece t 1) ∷ CutIndentStart ∷ CutSoftLine ∷ (Piece t 2) ∷ CutLine ∷ (Piece t 3) ∷ CutIndentEnd ∷ CutSoftLine ∷ (Piece t 4) ∷ ChoiceEnd ∷ GroupEnd ∷ []) (Cut ∷ Flat ∷ [])
Row51 i = Unit {0}

pub row51 : (i : Item) → Row51 i
unfolding are_right holds columns_to_break first_line has_part is_forced_behind is_forced_beside is_forced_before_cut is_forced_behind_head
row51 (Piece t c) = refl
row51 i = tt

abbrev Row52 : Item → Type 0
Row52 (Piece t c) = right 7 (GroupStart ∷ (Piece t 1) ∷ Line ∷ (Piece t 2) ∷ GroupEnd ∷ ChoiceStart ∷ (Piece t 3) ∷ CutIndentStart ∷ CutSoftLine ∷ (Piece t 4) ∷ CutIndentEnd ∷ CutSoftLine ∷ (Piece t 1) ∷ ChoiceEnd ∷ []) (Flat ∷ Cut ∷ [])
Row52 i = Unit {0}

pub row52 : (i : Item) → Row52 i
unfolding are_right holds columns_to_break first_line has_part is_forced_behind is_forced_beside is_forced_before_cut is_forced_behind_head
row52 (Piece t c) = refl
row52 i = tt

abbrev Row53 : Item → Type 0
Row53 (Piece t c) = right 6 (GroupStart ∷ (Piece t 1) ∷ Line ∷ (Piece t 2) ∷ GroupEnd ∷ ChoiceStart ∷ (Piece t 3) ∷ CutIndentStart ∷ CutSoftLine ∷ (Piece t 4) ∷ CutIndentEnd ∷ CutSoftLine ∷ (Piece t 1) ∷ ChoiceEnd ∷ []) (Cut ∷ Cut ∷ [])
Row53 i = Unit {0}

pub row53 : (i : Item) → Row53 i
unfolding are_right holds columns_to_break first_line has_part is_forced_behind is_forced_beside is_forced_before_cut is_forced_behind_head
row53 (Piece t c) = refl
row53 i = tt

abbrev Row54 : Item → Type 0
Row54 (Piece t c) = right 14 (ChoiceStart ∷ (Piece t 1) ∷ CutIndentStart ∷ CutSoftLine ∷ (Piece t 2) ∷ CutLine ∷ JoinStart ∷ (Piece t 3) ∷ IndentStart ∷ SoftLine ∷ (Piece t 1) ∷ IndentEnd ∷ SoftLine ∷ (Piece t 2) ∷ GroupEnd ∷ (IfCut t 1) ∷ CutIndentEnd ∷ CutSoftLine ∷ (Piece t 4) ∷ ChoiceEnd ∷ []) (Flat ∷ Flat ∷ [])
Row54 i = Unit {0}

pub row54 : (i : Item) → Row54 i
unfolding are_right holds columns_to_break first_line has_part is_forced_behind is_forced_beside is_forced_before_cut is_forced_behind_head
row54 (Piece t c) = refl
row54 i = tt

abbrev Row55 : Item → Type 0
Row55 (Piece t c) = right 13 (ChoiceStart ∷ (Piece t 1) ∷ CutIndentStart ∷ CutSoftLine ∷ (Piece t 2) ∷ CutLine ∷ JoinStart ∷ (Piece t 3) ∷ IndentStart ∷ SoftLine ∷ (Piece t 1) ∷ IndentEnd ∷ SoftLine ∷ (Piece t 2) ∷ GroupEnd ∷ (IfCut t 1) ∷ CutIndentEnd ∷ CutSoftLine ∷ (Piece t 4) ∷ ChoiceEnd ∷ []) (Joined ∷ Cut ∷ [])
Row55 i = Unit {0}

pub row55 : (i : Item) → Row55 i
unfolding are_right holds columns_to_break first_line has_part is_forced_behind is_forced_beside is_forced_before_cut is_forced_behind_head
row55 (Piece t c) = refl
row55 i = tt

abbrev Row56 : Item → Type 0
Row56 (Piece t c) = right 7 (ChoiceStart ∷ (Piece t 1) ∷ CutIndentStart ∷ CutSoftLine ∷ (Piece t 2) ∷ CutLine ∷ JoinStart ∷ (Piece t 3) ∷ IndentStart ∷ SoftLine ∷ (Piece t 1) ∷ IndentEnd ∷ SoftLine ∷ (Piece t 2) ∷ GroupEnd ∷ (IfCut t 1) ∷ CutIndentEnd ∷ CutSoftLine ∷ (Piece t 4) ∷ ChoiceEnd ∷ []) (Joined ∷ Cut ∷ [])
Row56 i = Unit {0}

pub row56 : (i : Item) → Row56 i
unfolding are_right holds columns_to_break first_line has_part is_forced_behind is_forced_beside is_forced_before_cut is_forced_behind_head
row56 (Piece t c) = refl
row56 i = tt

abbrev Row57 : Item → Type 0
Row57 (Piece t c) = right 6 (ChoiceStart ∷ (Piece t 1) ∷ CutIndentStart ∷ CutSoftLine ∷ (Piece t 2) ∷ CutLine ∷ JoinStart ∷ (Piece t 3) ∷ IndentStart ∷ SoftLine ∷ (Piece t 1) ∷ IndentEnd ∷ SoftLine ∷ (Piece t 2) ∷ GroupEnd ∷ (IfCut t 1) ∷ CutIndentEnd ∷ CutSoftLine ∷ (Piece t 4) ∷ ChoiceEnd ∷ []) (Cut ∷ Cut ∷ [])
Row57 i = Unit {0}

pub row57 : (i : Item) → Row57 i
unfolding are_right holds columns_to_break first_line has_part is_forced_behind is_forced_beside is_forced_before_cut is_forced_behind_head
row57 (Piece t c) = refl
row57 i = tt

abbrev Row58 : Item → Type 0
Row58 (Piece t c) = right 14 (ChoiceStart ∷ (Piece t 1) ∷ CutIndentStart ∷ CutSoftLine ∷ (Piece t 2) ∷ CutLine ∷ (Piece t 3) ∷ JoinStart ∷ IndentStart ∷ Line ∷ (Piece t 2) ∷ IndentEnd ∷ (IfJoined t 1) ∷ JoinedSoftLine ∷ GroupEnd ∷ CutIndentEnd ∷ CutSoftLine ∷ (Piece t 4) ∷ ChoiceEnd ∷ []) (Flat ∷ Flat ∷ [])
Row58 i = Unit {0}

pub row58 : (i : Item) → Row58 i
unfolding are_right holds columns_to_break first_line has_part is_forced_behind is_forced_beside is_forced_before_cut is_forced_behind_head
row58 (Piece t c) = refl
row58 i = tt

abbrev Row59 : Item → Type 0
Row59 (Piece t c) = right 13 (ChoiceStart ∷ (Piece t 1) ∷ CutIndentStart ∷ CutSoftLine ∷ (Piece t 2) ∷ CutLine ∷ (Piece t 3) ∷ JoinStart ∷ IndentStart ∷ Line ∷ (Piece t 2) ∷ IndentEnd ∷ (IfJoined t 1) ∷ JoinedSoftLine ∷ GroupEnd ∷ CutIndentEnd ∷ CutSoftLine ∷ (Piece t 4) ∷ ChoiceEnd ∷ []) (Joined ∷ Cut ∷ [])
Row59 i = Unit {0}

pub row59 : (i : Item) → Row59 i
unfolding are_right holds columns_to_break first_line has_part is_forced_behind is_forced_beside is_forced_before_cut is_forced_behind_head
row59 (Piece t c) = refl
row59 i = tt

abbrev Row60 : Item → Type 0
Row60 (Piece t c) = right 6 (ChoiceStart ∷ (Piece t 1) ∷ CutIndentStart ∷ CutSoftLine ∷ (Piece t 2) ∷ CutLine ∷ (Piece t 3) ∷ JoinStart ∷ IndentStart ∷ Line ∷ (Piece t 2) ∷ IndentEnd ∷ (IfJoined t 1) ∷ JoinedSoftLine ∷ GroupEnd ∷ CutIndentEnd ∷ CutSoftLine ∷ (Piece t 4) ∷ ChoiceEnd ∷ []) (Cut ∷ Cut ∷ [])
Row60 i = Unit {0}

pub row60 : (i : Item) → Row60 i
unfolding are_right holds columns_to_break first_line has_part is_forced_behind is_forced_beside is_forced_before_cut is_forced_behind_head
row60 (Piece t c) = refl
row60 i = tt

abbrev Row61 : Item → Type 0
Row61 (Piece t c) = right 80 (ChoiceStart ∷ (Piece t 1) ∷ CutIndentStart ∷ CutSoftLine ∷ (Piece t 2) ∷ CutLine ∷ JoinStart ∷ (Piece t 3) ∷ IndentStart ∷ SoftLine ∷ (Piece t 1) ∷ Forced ∷ IndentEnd ∷ SoftLine ∷ (Piece t 2) ∷ GroupEnd ∷ CutIndentEnd ∷ CutSoftLine ∷ (Piece t 4) ∷ ChoiceEnd ∷ []) (Joined ∷ Cut ∷ [])
Row61 i = Unit {0}

pub row61 : (i : Item) → Row61 i
unfolding are_right holds columns_to_break first_line has_part is_forced_behind is_forced_beside is_forced_before_cut is_forced_behind_head
row61 (Piece t c) = refl
row61 i = tt

abbrev Row62 : Item → Type 0
Row62 (Piece t c) = right 80 (ChoiceStart ∷ (Piece t 1) ∷ CutIndentStart ∷ CutSoftLine ∷ (Piece t 2) ∷ Forced ∷ CutLine ∷ JoinStart ∷ (Piece t 3) ∷ IndentStart ∷ SoftLine ∷ (Piece t 1) ∷ IndentEnd ∷ SoftLine ∷ (Piece t 2) ∷ GroupEnd ∷ CutIndentEnd ∷ CutSoftLine ∷ (Piece t 4) ∷ ChoiceEnd ∷ []) (Cut ∷ Flat ∷ [])
Row62 i = Unit {0}

pub row62 : (i : Item) → Row62 i
unfolding are_right holds columns_to_break first_line has_part is_forced_behind is_forced_beside is_forced_before_cut is_forced_behind_head
row62 (Piece t c) = refl
row62 i = tt

abbrev Row63 : Item → Type 0
Row63 (Piece t c) = right 80 (ChoiceStart ∷ (Piece t 1) ∷ CutIndentStart ∷ CutSoftLine ∷ JoinStart ∷ (Piece t 3) ∷ IndentStart ∷ SoftLine ∷ (Piece t 1) ∷ IndentEnd ∷ SoftLine ∷ (Piece t 2) ∷ GroupEnd ∷ CutLine ∷ (Piece t 2) ∷ Forced ∷ CutIndentEnd ∷ CutSoftLine ∷ (Piece t 4) ∷ ChoiceEnd ∷ []) (Cut ∷ Flat ∷ [])
Row63 i = Unit {0}

pub row63 : (i : Item) → Row63 i
unfolding are_right holds columns_to_break first_line has_part is_forced_behind is_forced_beside is_forced_before_cut is_forced_behind_head
row63 (Piece t c) = refl
row63 i = tt

abbrev Row64 : Item → Type 0
Row64 (Piece t c) = right 10 (ChoiceStart ∷ (Piece t 1) ∷ HeadEnd ∷ (Piece t 2) ∷ CutIndentStart ∷ CutSoftLine ∷ (Piece t 3) ∷ CutSoftLine ∷ (Piece t 4) ∷ GroupStart ∷ IndentStart ∷ HardLine ∷ (Piece t 1) ∷ IndentEnd ∷ GroupEnd ∷ CutIndentEnd ∷ ChoiceEnd ∷ []) (Joined ∷ Cut ∷ [])
Row64 i = Unit {0}

pub row64 : (i : Item) → Row64 i
unfolding are_right holds columns_to_break first_line has_part is_forced_behind is_forced_beside is_forced_before_cut is_forced_behind_head
row64 (Piece t c) = refl
row64 i = tt

abbrev Row65 : Item → Type 0
Row65 (Piece t c) = right 9 (ChoiceStart ∷ (Piece t 1) ∷ HeadEnd ∷ (Piece t 2) ∷ CutIndentStart ∷ CutSoftLine ∷ (Piece t 3) ∷ CutSoftLine ∷ (Piece t 4) ∷ GroupStart ∷ IndentStart ∷ HardLine ∷ (Piece t 1) ∷ IndentEnd ∷ GroupEnd ∷ CutIndentEnd ∷ ChoiceEnd ∷ []) (Cut ∷ Cut ∷ [])
Row65 i = Unit {0}

pub row65 : (i : Item) → Row65 i
unfolding are_right holds columns_to_break first_line has_part is_forced_behind is_forced_beside is_forced_before_cut is_forced_behind_head
row65 (Piece t c) = refl
row65 i = tt

abbrev Row66 : Item → Type 0
Row66 (Piece t c) = right 80 (ChoiceStart ∷ (Piece t 1) ∷ HeadEnd ∷ (Piece t 2) ∷ CutIndentStart ∷ CutSoftLine ∷ (Piece t 3) ∷ Forced ∷ CutSoftLine ∷ (Piece t 4) ∷ CutIndentEnd ∷ ChoiceEnd ∷ []) (Cut ∷ [])
Row66 i = Unit {0}

pub row66 : (i : Item) → Row66 i
unfolding are_right holds columns_to_break first_line has_part is_forced_behind is_forced_beside is_forced_before_cut is_forced_behind_head
row66 (Piece t c) = refl
row66 i = tt

abbrev Row67 : Item → Type 0
Row67 (Piece t c) = right 12 (ChoiceStart ∷ (Piece t 1) ∷ HeadEnd ∷ (Piece t 2) ∷ CutIndentStart ∷ CutSoftLine ∷ GroupStart ∷ (Piece t 3) ∷ Kept ∷ Line ∷ (Piece t 1) ∷ GroupEnd ∷ CutSoftLine ∷ (Piece t 4) ∷ CutIndentEnd ∷ ChoiceEnd ∷ []) (Joined ∷ Cut ∷ [])
Row67 i = Unit {0}

pub row67 : (i : Item) → Row67 i
unfolding are_right holds columns_to_break first_line has_part is_forced_behind is_forced_beside is_forced_before_cut is_forced_behind_head
row67 (Piece t c) = refl
row67 i = tt

abbrev Row68 : Item → Type 0
Row68 (Piece t c) = right 11 (ChoiceStart ∷ (Piece t 1) ∷ HeadEnd ∷ (Piece t 2) ∷ CutIndentStart ∷ CutSoftLine ∷ GroupStart ∷ (Piece t 3) ∷ Kept ∷ Line ∷ (Piece t 1) ∷ GroupEnd ∷ CutSoftLine ∷ (Piece t 4) ∷ CutIndentEnd ∷ ChoiceEnd ∷ []) (Cut ∷ Cut ∷ [])
Row68 i = Unit {0}

pub row68 : (i : Item) → Row68 i
unfolding are_right holds columns_to_break first_line has_part is_forced_behind is_forced_beside is_forced_before_cut is_forced_behind_head
row68 (Piece t c) = refl
row68 i = tt

abbrev Row69 : Item → Type 0
Row69 (Piece t c) = right 10 (ChoiceStart ∷ (Piece t 1) ∷ Forced ∷ HeadEnd ∷ (Piece t 2) ∷ CutIndentStart ∷ CutSoftLine ∷ (Piece t 3) ∷ CutSoftLine ∷ (Piece t 4) ∷ CutIndentEnd ∷ ChoiceEnd ∷ []) (Joined ∷ [])
Row69 i = Unit {0}

pub row69 : (i : Item) → Row69 i
unfolding are_right holds columns_to_break first_line has_part is_forced_behind is_forced_beside is_forced_before_cut is_forced_behind_head
row69 (Piece t c) = refl
row69 i = tt

abbrev Row70 : Item → Type 0
Row70 (Piece t c) = right 5 (GroupStart ∷ (Piece t 2) ∷ Line ∷ (Piece t 2) ∷ GroupEnd ∷ []) (Flat ∷ [])
Row70 i = Unit {0}

pub row70 : (i : Item) → Row70 i
unfolding are_right holds columns_to_break first_line has_part is_forced_behind is_forced_beside is_forced_before_cut is_forced_behind_head
row70 (Piece t c) = refl
row70 i = tt
