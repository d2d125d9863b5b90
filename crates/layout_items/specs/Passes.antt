-- What the two passes are at, one item after the other. Nothing here has to be believed.
use Rattle.std.specs.Prelude.{◌≡◌, ℕ, zero, suc, ◌+◌, ◌-◌, ◌≤◌, ◌^◌, Bool, false, not, cond, ◌||◌, nat_lt, List, [], ◌∷◌, ◌++◌, Option, Some, None, reverse, get_or, is_some}
use Rattle.layout_items.specs.declared.form.Form.{Form}
use Rattle.layout_items.specs.declared.item.Item.{Item}
use Rattle.layout_items.specs.declared.item.Item.TheVariants.{GroupStart, WideStart, ChoiceStart, JoinStart, GroupEnd, ChoiceEnd, HeadEnd, CutLine, CutSoftLine}
use Rattle.layout_items.specs.declared.needs.Columns.{Columns}
use Rattle.layout_items.specs.declared.needs.Measures.{Measures}
use Rattle.layout_items.specs.declared.needs.Need.{Need}
use Rattle.layout_items.specs.declared.needs.Tail.{Tail}
use Rattle.layout_items.specs.declared.place.Place.{Place}
use Rattle.layout_items.specs.declared.style.Style.{Style}
use Rattle.layout_items.specs.Items.{flat_columns, first_columns, joined_columns, may_end_a_line, ends_a_joined_line, must_end_a_line, firmly_ends_a_line, is_start, is_end}
use Rattle.layout_items.specs.Reach.{columns_to_break, reach, is_forced, first_line, may_be_joined, joined_reach}
use Rattle.layout_items.specs.Places.{is_flat_form, behind_item, behind_start}
use Rattle.layout_items.specs.Layout.{ending, item_text, form_of, innermost, next_forms}

-- What an item counts for at most

abbrev pub size_of : Item → ℕ
size_of i = flat_columns i + first_columns i + 1

unfoldable pub sizes : List Item → ℕ
sizes [] = 0
sizes (i ∷ is) = size_of i + sizes is

-- The pass back

-- the columns of all items, flat
unfoldable pub all_flat : List Item → ℕ
all_flat [] = 0
all_flat (i ∷ is) = all_flat is + flat_columns i

-- how many are such
unfoldable pub count : (Item → Bool) → List Item → ℕ
count is_such [] = 0
count is_such (i ∷ is) = count is_such is + cond (is_such i) 1 0

-- what stands behind the end of a group that is open
unfoldable pub past : List Item → ℕ → List Item
past [] n = []
past (GroupEnd ∷ is) zero = is
past (ChoiceEnd ∷ is) zero = is
past (GroupEnd ∷ is) (suc n) = past is n
past (ChoiceEnd ∷ is) (suc n) = past is n
past (GroupStart ∷ is) n = past is (suc n)
past (WideStart ∷ is) n = past is (suc n)
past (ChoiceStart ∷ is) n = past is (suc n)
past (JoinStart ∷ is) n = past is (suc n)
past (i ∷ is) n = past is n

-- what it needs to be flat: as `reach`, and more than any line has if a line must end in it
abbrev pub need : List Item → ℕ → ℕ
need is n = cond (is_forced is n) 65536 (reach is n)

-- what a choice needs to be joined
abbrev pub joined_need : List Item → ℕ
joined_need is = cond (may_be_joined is) (joined_reach is) 65536

abbrev pub of_group : ℕ → Need
of_group flat = record { flat = flat; joined = 65536 }

-- what a group needs that begins with an item
abbrev pub need_at : Item → List Item → Need
need_at WideStart is = record { flat = cond (is_forced is 0) 65536 0; joined = 65536 }
need_at ChoiceStart is = record { flat = need is 0; joined = joined_need is }
need_at i is = record { flat = need is 0; joined = 65536 }

-- of each group
unfoldable pub needs_of : List Item → List Need
needs_of [] = []
needs_of (i ∷ is) = cond (is_start i) (need_at i is ∷ needs_of is) (needs_of is)

abbrev pub columns_of : List Item → Columns
columns_of is = record {
  flat = all_flat is;
  forced = count must_end_a_line is;
  firm = count firmly_ends_a_line is;
  to_break = columns_to_break is;
  to_end = first_line must_end_a_line is;
  firm_to_end = first_line firmly_ends_a_line is;
}

-- so few that no sum of two is too great
pub record AreFew (c : Columns) : Type 0 where
  pub flat : c.flat ≤ 2 ^ 48
  pub forced : c.forced ≤ 2 ^ 48
  pub firm : c.firm ≤ 2 ^ 48
  pub to_break : c.to_break ≤ 2 ^ 48
  pub to_end : c.to_end ≤ 2 ^ 48
  pub firm_to_end : c.firm_to_end ≤ 2 ^ 48

-- with an item before them that is no mark
abbrev pub with_item : Item → Columns → Columns
with_item i c = record {
  flat = c.flat + flat_columns i;
  forced = c.forced + cond (must_end_a_line i) 1 0;
  firm = c.firm + cond (firmly_ends_a_line i) 1 0;
  to_break = first_columns i + cond (may_end_a_line i) 0 c.to_break;
  to_end = joined_columns i + cond (ends_a_joined_line i) 0 c.to_end;
  firm_to_end = joined_columns i + cond (ends_a_joined_line i) 0 c.firm_to_end;
}

-- before a group, by what stands behind it and the columns of its first line where a line must end in it
abbrev pub around : Columns → ℕ → ℕ → Columns → Columns
around behind to_end firm_to_end c = record c {
  to_end = cond (nat_lt behind.forced c.forced) to_end (c.flat - behind.flat + behind.to_end);
  firm_to_end = cond (nat_lt behind.firm c.firm) firm_to_end (c.flat - behind.flat + behind.firm_to_end);
}

abbrev pub around_group : Columns → Columns → Columns
around_group behind c = around behind c.to_end c.firm_to_end c

abbrev pub around_wide : Columns → Columns → Columns
around_wide behind c = record (around_group behind c) { to_break = cond (nat_lt behind.forced c.forced) c.to_break (c.flat - behind.flat + behind.to_break) }

abbrev pub behind_choice : Columns → Columns
behind_choice c = record c { to_end = c.to_break; firm_to_end = c.to_break }

-- a group of which nothing was passed but its end
abbrev pub new_tail : Columns → Tail
new_tail columns = record { behind = columns; behind_part = None; part = columns; last_cut = None; head = None }

-- behind the last end each group ends behind all items
abbrev pub no_tail : Tail
no_tail = new_tail (columns_of [])

abbrev pub with_part : Columns → Columns → Tail → Tail
with_part part behind_part t = record t { part = part; behind_part = Some (nat_lt t.behind.forced behind_part.forced) }

abbrev pub with_head : Columns → Tail → Tail
with_head columns t = record t { head = Some columns }

abbrev pub or_else : Option Columns → Columns → Option Columns
or_else None columns = Some columns
or_else (Some last) columns = Some last

abbrev pub with_cut : Columns → Tail → Tail
with_cut columns t = record t { last_cut = or_else t.last_cut columns }

-- with an item that is no start and no end of a group
abbrev pub with_noted : Item → Columns → Tail → Tail
with_noted HeadEnd columns t = with_head columns t
with_noted CutLine columns t = with_cut columns t
with_noted CutSoftLine columns t = with_cut columns t
with_noted i columns t = t

abbrev pub is_outside : Item → Bool
is_outside i = not (is_start i || is_end i)

-- what was passed of the groups that end in these items and begin before them, the innermost first
unfoldable pub tail_of : List Item → ℕ → Tail
tail_of [] n = no_tail
tail_of (GroupEnd ∷ is) zero = new_tail (columns_of is)
tail_of (ChoiceEnd ∷ is) zero = new_tail (columns_of is)
tail_of (GroupEnd ∷ is) (suc n) = tail_of is n
tail_of (ChoiceEnd ∷ is) (suc n) = tail_of is n
tail_of (GroupStart ∷ is) n = tail_of is (suc n)
tail_of (WideStart ∷ is) n = tail_of is (suc n)
tail_of (ChoiceStart ∷ is) n = tail_of is (suc n)
tail_of (JoinStart ∷ is) zero = with_part (columns_of is) (tail_of is 0).behind (tail_of is 1)
tail_of (JoinStart ∷ is) (suc n) = tail_of is (suc (suc n))
tail_of (HeadEnd ∷ is) zero = with_head (columns_of is) (tail_of is 0)
tail_of (CutLine ∷ is) zero = with_cut (columns_of is) (tail_of is 0)
tail_of (CutSoftLine ∷ is) zero = with_cut (columns_of is) (tail_of is 0)
tail_of (i ∷ is) n = tail_of is n

-- those that the code has
abbrev pub tail_at : Measures → ℕ → Tail
tail_at m zero = m.innermost
tail_at m (suc n) = get_or (reverse m.outer.items) n no_tail

abbrev pub IsBehindEnd : Measures → Measures → Type 0
IsBehindEnd old new = (new.innermost ≡ new_tail old.columns) × ((n : ℕ) → tail_at new (suc n) ≡ tail_at old n)

abbrev pub IsBehindStart : Measures → Measures → Type 0
IsBehindStart old new = (n : ℕ) → tail_at new n ≡ tail_at old (suc n)

pub record HasPassed (m : Measures) (is : List Item) : Type 0 where
  pub columns : m.columns ≡ columns_of is
  pub tails : (n : ℕ) → tail_at m n ≡ tail_of is n
  pub needs : m.needs.items ≡ reverse (needs_of is)

-- what is noted of a group says whether it may be joined

-- whether a line must end between a place and the last cut, if there is one, where what is kept counts for nothing; `seen` says that one
-- must before that place
abbrev pub is_firm_to_cut : Bool → ℕ → Option Columns → Bool
is_firm_to_cut seen before None = false
is_firm_to_cut seen before (Some cut) = seen || nat_lt cut.firm before

abbrev pub is_firm_behind : Option Columns → Option Columns → Bool → Bool
is_firm_behind None cut whole = whole
is_firm_behind (Some head) cut whole = is_firm_to_cut false head.firm cut

-- whether one must end beside the part, or behind it
abbrev pub is_beside : ℕ → ℕ → Option Bool → Bool
is_beside before part None = false
is_beside before part (Some is_behind) = nat_lt part before || is_behind

abbrev pub joins_by : Columns → Tail → Option Bool → Bool
joins_by before t None = not (is_firm_behind t.head t.last_cut (is_firm_to_cut false before.firm t.last_cut))
joins_by before t (Some is_behind) = not (nat_lt t.part.forced before.forced || is_behind)

abbrev pub tail_joins : Columns → Tail → Bool
tail_joins before t = joins_by before t t.behind_part

abbrev pub tail_need : Columns → Tail → ℕ
tail_need before t = cond (tail_joins before t) (cond (is_some t.behind_part) before.to_end before.firm_to_end) 65536

abbrev pub before_choice : Columns → Tail → Columns
before_choice before t = cond (tail_joins before t) (around_group t.behind before) (around t.behind before.to_break before.to_break before)

-- The pass on

-- the place behind an item that these follow
abbrev pub next_place : Style → Form → Place → Item → List Item → Place
next_place style f p i is = cond (is_start i) (behind_start (is_flat_form (form_of style f p i is)) p) (behind_item style f p i)

-- the forms behind it
abbrev pub forms_behind : Style → Place → List Form → Item → List Item → List Form
forms_behind style p fs ChoiceStart is = form_of style (innermost fs) p ChoiceStart is ∷ fs
forms_behind style p fs i is = next_forms p i fs

-- the layout of what is left
unfoldable pub layout_from : Style → Place → List Form → List Item → List ℕ
layout_from style p fs [] = ending p.gap
layout_from style p fs (i ∷ is) = item_text style (innermost fs) p i ++ layout_from style (next_place style (innermost fs) p i is) (forms_behind style p fs i is) is
