-- The layout of items: the text that they are with a form for each group, where each form is right.
use Rattle.std.specs.Prelude.{◌≡◌, ℕ, ◌+◌, Bool, true, false, not, cond, ◌&&◌, ◌||◌, nat_lt, List, [], ◌∷◌, ◌++◌, replicate, drop}
use Rattle.layout_items.specs.declared.form.Form.{Form}
use Rattle.layout_items.specs.declared.form.Form.TheVariants.{Flat, Joined, Cut}
use Rattle.layout_items.specs.declared.gap.Gap.{Gap}
use Rattle.layout_items.specs.declared.gap.Gap.TheVariants as gap
use Rattle.layout_items.specs.declared.item.Item.{Item}
use Rattle.layout_items.specs.declared.item.Item.TheVariants.{Piece, IfBroken, IfCut, IfJoined, Lines, LastOnLine, GroupStart, WideStart, ChoiceStart, JoinStart, ChoiceEnd, HangStart, HangEnd}
use Rattle.layout_items.specs.declared.place.Place.{Place}
use Rattle.layout_items.specs.declared.style.Style.{Style}
use Rattle.layout_items.specs.Gaps.{spaced}
use Rattle.layout_items.specs.Places.{beginning, indent_columns, piece_room, is_in_flat, is_flat_form, is_joined_form, is_cut_form, behind_group, behind_item, behind_start}
use Rattle.layout_items.specs.Reach.{reach, is_forced, may_be_joined, joined_reach}

-- What is written

abbrev pub indentation : Style → Place → List ℕ
indentation style p = cond style.tabs (replicate (p.line_levels + p.line_aligned) 9) (replicate (indent_columns style p) 32)

-- between the last piece and the next one
abbrev pub gap_text : Style → Place → Gap → List ℕ
gap_text style p gap.Nothing = []
gap_text style p gap.Space = 32 ∷ []
gap_text style p gap.LineEnd = 10 ∷ indentation style p
gap_text style p gap.EmptyLine = 10 ∷ (10 ∷ indentation style p)
gap_text style p gap.Beginning = []

-- behind the last piece
abbrev pub ending : Gap → List ℕ
ending gap.LineEnd = 10 ∷ []
ending gap.EmptyLine = 10 ∷ []
ending g = []

-- the text of an item with the gap before it, where the innermost choice has a form
abbrev pub item_text : Style → Form → Place → Item → List ℕ
item_text style f p (Piece text columns) = gap_text style p p.gap ++ text.now
item_text style f p (IfBroken text columns) = cond (is_in_flat p) [] (gap_text style p p.gap ++ text.now)
item_text style f p (IfCut text columns) = cond (is_cut_form f) (gap_text style p p.gap ++ text.now) []
item_text style f p (IfJoined text columns) = cond (is_joined_form f) (gap_text style p p.gap ++ text.now) []
item_text style f p (Lines text first last) = gap_text style p p.gap ++ text.now
item_text style f p (LastOnLine text) = gap_text style p (spaced p.gap) ++ text.now
item_text style f p i = []

-- The forms of what is open: of choices, and of what hangs behind a group

-- that of the innermost one
abbrev pub innermost : List Form → Form
innermost [] = Cut
innermost (f ∷ fs) = f

-- behind an item that isn't the start of a choice
abbrev pub next_forms : Place → Item → List Form → List Form
next_forms p HangStart fs = behind_group p.is_behind_broken ∷ fs
next_forms p HangEnd fs = drop 1 fs
next_forms p ChoiceEnd fs = drop 1 fs
next_forms p i fs = fs

-- the text of the items, where forms say of each group, in their order, how it is laid out
unfoldable pub written : Style → Place → List Form → List Item → List Form → List ℕ
written style p open_forms [] forms = ending p.gap
written style p open_forms (GroupStart ∷ is) [] = []
written style p open_forms (WideStart ∷ is) [] = []
written style p open_forms (ChoiceStart ∷ is) [] = []
written style p open_forms (JoinStart ∷ is) [] = []
written style p open_forms (GroupStart ∷ is) (f ∷ fs) = written style (behind_start (is_flat_form f) p) open_forms is fs
written style p open_forms (WideStart ∷ is) (f ∷ fs) = written style (behind_start (is_flat_form f) p) open_forms is fs
written style p open_forms (ChoiceStart ∷ is) (f ∷ fs) = written style (behind_start (is_flat_form f) p) (f ∷ open_forms) is fs
written style p open_forms (JoinStart ∷ is) (f ∷ fs) = written style (behind_start (is_flat_form f) p) open_forms is fs
written style p open_forms (i ∷ is) forms = item_text style (innermost open_forms) p i ++ written style (behind_item style (innermost open_forms) p i) (next_forms p i open_forms) is forms

-- Which forms are right

abbrev pub flat_or_cut : Bool → Form
flat_or_cut is_flat = cond is_flat Flat Cut

-- whether a group is flat by itself: no line must end in it, and it reaches at most to the width
abbrev pub fits : Style → Place → List Item → Bool
fits style p is = not (is_forced is 0) && nat_lt (reach is 0) (piece_room style p)

-- the form of a choice: a group in a flat one is flat, another one if it fits; it is joined if it may be and fits then
abbrev pub choice_form : Style → Place → List Item → Form
choice_form style p is = cond (is_in_flat p || fits style p is) Flat (cond (may_be_joined is && nat_lt (joined_reach is) (piece_room style p)) Joined Cut)

-- the form of a group that begins with an item; what is no start has none
abbrev pub form_of : Style → Form → Place → Item → List Item → Form
form_of style f p WideStart is = flat_or_cut (is_in_flat p || not (is_forced is 0))
form_of style f p ChoiceStart is = choice_form style p is
form_of style f p JoinStart is = flat_or_cut (not (is_joined_form f) && (is_in_flat p || fits style p is))
form_of style f p i is = flat_or_cut (is_in_flat p || fits style p is)

abbrev pub same_form : Form → Form → Bool
same_form Flat Flat = true
same_form Joined Joined = true
same_form Cut Cut = true
same_form f g = false

-- a form for each group, and each is right
unfoldable pub are_right : Style → Place → List Form → List Item → List Form → Bool
are_right style p open_forms [] [] = true
are_right style p open_forms [] (f ∷ fs) = false
are_right style p open_forms (GroupStart ∷ is) [] = false
are_right style p open_forms (WideStart ∷ is) [] = false
are_right style p open_forms (ChoiceStart ∷ is) [] = false
are_right style p open_forms (JoinStart ∷ is) [] = false
are_right style p open_forms (GroupStart ∷ is) (f ∷ fs) =
    same_form f (form_of style (innermost open_forms) p GroupStart is) && are_right style (behind_start (is_flat_form f) p) open_forms is fs
are_right style p open_forms (WideStart ∷ is) (f ∷ fs) =
    same_form f (form_of style (innermost open_forms) p WideStart is) && are_right style (behind_start (is_flat_form f) p) open_forms is fs
are_right style p open_forms (ChoiceStart ∷ is) (f ∷ fs) =
    same_form f (form_of style (innermost open_forms) p ChoiceStart is) && are_right style (behind_start (is_flat_form f) p) (f ∷ open_forms) is fs
are_right style p open_forms (JoinStart ∷ is) (f ∷ fs) =
    same_form f (form_of style (innermost open_forms) p JoinStart is) && are_right style (behind_start (is_flat_form f) p) open_forms is fs
are_right style p open_forms (i ∷ is) forms = are_right style (behind_item style (innermost open_forms) p i) (next_forms p i open_forms) is forms

-- The layout

pub record IsLayout (style : Style) (items : List Item) (text : List ℕ) : Type 0 where
  pub forms : List Form
  pub right : are_right style (beginning style) [] items forms ≡ true
  pub reads : text ≡ written style (beginning style) [] items forms
