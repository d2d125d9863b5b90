-- What single items take.
use Rattle.std.specs.Prelude.{ℕ, Bool, true, false}
use Rattle.layout_items.specs.declared.item.Item.{Item}
use Rattle.layout_items.specs.declared.item.Item.TheVariants.{Piece, IfBroken, Lines, LastOnLine, Space, Line, SoftLine, HardLine, BlankLine, Forced, Kept, GroupStart, GroupEnd, WideStart, ChoiceStart, ChoiceEnd, CutLine, CutSoftLine, IfCut, JoinStart, JoinedSoftLine, IfJoined}

-- whether a line must end in it or right behind it, so that it breaks the groups around it
abbrev pub must_end_a_line : Item → Bool
must_end_a_line (Lines text first last) = true
must_end_a_line (LastOnLine text) = true
must_end_a_line HardLine = true
must_end_a_line BlankLine = true
must_end_a_line Forced = true
must_end_a_line Kept = true
must_end_a_line i = false

-- the same, where what is kept counts for nothing
abbrev pub firmly_ends_a_line : Item → Bool
firmly_ends_a_line Kept = false
firmly_ends_a_line i = must_end_a_line i

-- whether a line may end in it, the groups around it being broken
abbrev pub may_end_a_line : Item → Bool
may_end_a_line (Lines text first last) = true
may_end_a_line (LastOnLine text) = true
may_end_a_line Line = true
may_end_a_line SoftLine = true
may_end_a_line HardLine = true
may_end_a_line BlankLine = true
may_end_a_line CutLine = true
may_end_a_line CutSoftLine = true
may_end_a_line JoinedSoftLine = true
may_end_a_line i = false

-- the same in a choice that is joined
abbrev pub ends_a_joined_line : Item → Bool
ends_a_joined_line CutLine = false
ends_a_joined_line CutSoftLine = false
ends_a_joined_line i = may_end_a_line i

-- the columns that it takes in a flat group
abbrev pub flat_columns : Item → ℕ
flat_columns (Piece text columns) = columns
flat_columns Space = 1
flat_columns Line = 1
flat_columns CutLine = 1
flat_columns i = 0

-- the columns that it takes before a line may end in it, the groups around it being broken
abbrev pub first_columns : Item → ℕ
first_columns (Piece text columns) = columns
first_columns (IfBroken text columns) = columns
first_columns (IfCut text columns) = columns
first_columns (IfJoined text columns) = columns
first_columns (Lines text first last) = first
first_columns Space = 1
first_columns i = 0

-- the same in a choice that is joined
abbrev pub joined_columns : Item → ℕ
joined_columns (IfCut text columns) = 0
joined_columns CutLine = 1
joined_columns i = first_columns i

-- Groups, among them choices

abbrev pub is_start : Item → Bool
is_start GroupStart = true
is_start WideStart = true
is_start ChoiceStart = true
is_start JoinStart = true
is_start i = false

abbrev pub is_end : Item → Bool
is_end GroupEnd = true
is_end ChoiceEnd = true
is_end i = false

-- where a choice may be cut
abbrev pub is_cut : Item → Bool
is_cut CutLine = true
is_cut CutSoftLine = true
is_cut i = false
