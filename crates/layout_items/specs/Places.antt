-- Where a layout stands between two items.
use Rattle.std.specs.Prelude.{ℕ, ◌+◌, ◌-◌, ◌*◌, Bool, true, false, not, cond, nat_lt}
use Rattle.layout_items.specs.declared.form.Form.{Form}
use Rattle.layout_items.specs.declared.form.Form.TheVariants.{Flat, Joined, Cut}
use Rattle.layout_items.specs.declared.gap.Gap.{Gap}
use Rattle.layout_items.specs.declared.gap.Gap.TheVariants as gap
use Rattle.layout_items.specs.declared.item.Item.{Item}
use Rattle.layout_items.specs.declared.item.Item.TheVariants.{Piece, IfBroken, IfCut, IfJoined, Lines, LastOnLine, Space, Line, SoftLine, CutLine, CutSoftLine, JoinedSoftLine, HardLine, BlankLine, GroupEnd, ChoiceEnd, IndentStart, IndentEnd, AlignStart, AlignEnd, HangStart, HangEnd, CutIndentStart, CutIndentEnd}
use Rattle.layout_items.specs.declared.place.Place.{Place}
use Rattle.layout_items.specs.declared.style.Style.{Style}
use Rattle.layout_items.specs.Gaps.{spaced, ended, parted}

abbrev pub beginning : Style → Place
beginning style = record { room = style.width + 1; levels = 0; aligned = 0; line_levels = 0; line_aligned = 0; flat = 0; is_behind_broken = false; gap = gap.Beginning }

-- the columns of the indentation of the line that begins here
abbrev pub indent_columns : Style → Place → ℕ
indent_columns style p = cond style.tabs (style.indent * (p.line_levels + p.line_aligned)) (style.indent * p.line_levels + 2 * p.line_aligned)

-- the room on the line that the next piece is on, before it
abbrev pub room_behind : Style → Place → Gap → ℕ
room_behind style p gap.Nothing = p.room
room_behind style p gap.Space = p.room - 1
room_behind style p gap.LineEnd = style.width + 1 - indent_columns style p
room_behind style p gap.EmptyLine = style.width + 1 - indent_columns style p
room_behind style p gap.Beginning = p.room

abbrev pub piece_room : Style → Place → ℕ
piece_room style p = room_behind style p p.gap

-- behind a piece of so many columns
abbrev pub behind_piece : Style → ℕ → Place → Place
behind_piece style columns p = record p { room = piece_room style p - columns; gap = gap.Nothing }

-- behind a piece of several lines
abbrev pub behind_lines : Style → ℕ → Place → Place
behind_lines style last p = record p { room = style.width + 1 - last; gap = gap.Nothing }

-- whether the innermost open group is flat
abbrev pub is_in_flat : Place → Bool
is_in_flat p = nat_lt 0 p.flat

-- a space is asked for
abbrev pub with_gap : Gap → Place → Place
with_gap g p = record p { gap = g }

-- a line is asked to begin: it is indented as lines are here
abbrev pub with_line : Gap → Place → Place
with_line g p = record p { gap = g; line_levels = p.levels; line_aligned = p.aligned }

-- a line end is asked for
abbrev pub broken : Place → Place
broken p = with_line (ended p.gap) p

-- behind the end of a group
abbrev pub behind_end : Place → Place
behind_end p = record p { flat = p.flat - 1; is_behind_broken = not (is_in_flat p) }

abbrev pub indented : ℕ → ℕ → Place → Place
indented levels aligned p = record p { levels = levels; aligned = aligned }

-- the form of what hangs behind a group, which is broken or not
abbrev pub behind_group : Bool → Form
behind_group is_broken = cond is_broken Cut Joined

abbrev pub is_cut_form : Form → Bool
is_cut_form Cut = true
is_cut_form f = false

abbrev pub is_joined_form : Form → Bool
is_joined_form Joined = true
is_joined_form f = false

abbrev pub is_flat_form : Form → Bool
is_flat_form Flat = true
is_flat_form f = false

-- one level deeper, or less deep, in the form that is cut
abbrev pub deeper_if_cut : Form → Place → Place
deeper_if_cut f p = cond (is_cut_form f) (indented (p.levels + 1) p.aligned p) p

abbrev pub less_deep_if_cut : Form → Place → Place
less_deep_if_cut f p = cond (is_cut_form f) (indented (p.levels - 1) p.aligned p) p

-- behind an item that changes the indentation, or nothing
abbrev pub behind_indentation : Form → Place → Item → Place
behind_indentation f p IndentStart = indented (p.levels + 1) p.aligned p
behind_indentation f p IndentEnd = indented (p.levels - 1) p.aligned p
behind_indentation f p AlignStart = indented p.levels (p.aligned + 1) p
behind_indentation f p AlignEnd = indented p.levels (p.aligned - 1) p
behind_indentation f p HangStart = deeper_if_cut (behind_group p.is_behind_broken) p
behind_indentation f p CutIndentStart = deeper_if_cut f p
behind_indentation f p HangEnd = less_deep_if_cut f p
behind_indentation f p CutIndentEnd = less_deep_if_cut f p
behind_indentation f p i = p

-- the place behind an item that isn't the start of a group, where the innermost choice, or what hangs, has a form
abbrev pub behind_item : Style → Form → Place → Item → Place
behind_item style f p (Piece text columns) = behind_piece style columns p
behind_item style f p (IfBroken text columns) = cond (is_in_flat p) p (behind_piece style columns p)
behind_item style f p (IfCut text columns) = cond (is_cut_form f) (behind_piece style columns p) p
behind_item style f p (IfJoined text columns) = cond (is_joined_form f) (behind_piece style columns p) p
behind_item style f p (Lines text first last) = behind_lines style last p
behind_item style f p (LastOnLine text) = with_line gap.LineEnd p
behind_item style f p Space = with_gap (spaced p.gap) p
behind_item style f p Line = cond (is_in_flat p) (with_gap (spaced p.gap) p) (broken p)
behind_item style f p SoftLine = cond (is_in_flat p) p (broken p)
behind_item style f p CutLine = cond (is_cut_form f) (broken p) (with_gap (spaced p.gap) p)
behind_item style f p CutSoftLine = cond (is_cut_form f) (broken p) p
behind_item style f p JoinedSoftLine = cond (is_joined_form f) (broken p) p
behind_item style f p HardLine = broken p
behind_item style f p BlankLine = with_line (parted p.gap) p
behind_item style f p GroupEnd = behind_end p
behind_item style f p ChoiceEnd = behind_end p
behind_item style f p i = behind_indentation f p i

-- behind the start of a group that is flat, or broken
abbrev pub behind_start : Bool → Place → Place
behind_start is_flat p = cond is_flat (record p { flat = p.flat + 1 }) p
