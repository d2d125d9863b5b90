-- How far a group reaches, by the items behind its start; `n` says how many groups were opened since and are still open.
use Rattle.std.specs.Prelude.{ℕ, zero, suc, ◌+◌, Bool, true, false, not, cond, ◌&&◌, ◌||◌, List, [], ◌∷◌}
use Rattle.layout_items.specs.declared.item.Item.{Item}
use Rattle.layout_items.specs.declared.item.Item.TheVariants.{GroupStart, WideStart, ChoiceStart, JoinStart, GroupEnd, ChoiceEnd, HeadEnd}
use Rattle.layout_items.specs.Items.{must_end_a_line, firmly_ends_a_line, may_end_a_line, ends_a_joined_line, flat_columns, first_columns, joined_columns, is_cut}

-- Whether a line must end

-- whether such an item stands before the end of the group
unfoldable pub holds : (Item → Bool) → List Item → ℕ → Bool
holds is_such [] n = false
holds is_such (GroupEnd ∷ is) zero = false
holds is_such (ChoiceEnd ∷ is) zero = false
holds is_such (GroupEnd ∷ is) (suc n) = holds is_such is n
holds is_such (ChoiceEnd ∷ is) (suc n) = holds is_such is n
holds is_such (GroupStart ∷ is) n = holds is_such is (suc n)
holds is_such (WideStart ∷ is) n = holds is_such is (suc n)
holds is_such (ChoiceStart ∷ is) n = holds is_such is (suc n)
holds is_such (JoinStart ∷ is) n = holds is_such is (suc n)
holds is_such (i ∷ is) n = is_such i || holds is_such is n

-- whether a line must end in the group
abbrev pub is_forced : List Item → ℕ → Bool
is_forced = holds must_end_a_line

-- Columns

unfoldable mutual
  -- the columns up to the next place where a line may end, the groups around being broken: a break in a group that begins here counts as
  -- well, but for one in a wide group that is flat
  pub columns_to_break : List Item → ℕ
  columns_to_break [] = 0
  columns_to_break (WideStart ∷ is) = cond (is_forced is 0) (columns_to_break is) (reach is 0)
  columns_to_break (i ∷ is) = first_columns i + cond (may_end_a_line i) 0 (columns_to_break is)

  -- the columns up to the end of the group when it is flat, with those behind it
  pub reach : List Item → ℕ → ℕ
  reach [] n = 0
  reach (GroupEnd ∷ is) zero = columns_to_break is
  reach (ChoiceEnd ∷ is) zero = columns_to_break is
  reach (GroupEnd ∷ is) (suc n) = reach is n
  reach (ChoiceEnd ∷ is) (suc n) = reach is n
  reach (GroupStart ∷ is) n = reach is (suc n)
  reach (WideStart ∷ is) n = reach is (suc n)
  reach (ChoiceStart ∷ is) n = reach is (suc n)
  reach (JoinStart ∷ is) n = reach is (suc n)
  reach (i ∷ is) n = flat_columns i + reach is n

-- The joined form of a choice

-- whether it has a part whose lines end then
unfoldable pub has_part : List Item → ℕ → Bool
has_part [] n = false
has_part (JoinStart ∷ is) zero = true
has_part (GroupEnd ∷ is) zero = false
has_part (ChoiceEnd ∷ is) zero = false
has_part (GroupEnd ∷ is) (suc n) = has_part is n
has_part (ChoiceEnd ∷ is) (suc n) = has_part is n
has_part (GroupStart ∷ is) n = has_part is (suc n)
has_part (WideStart ∷ is) n = has_part is (suc n)
has_part (ChoiceStart ∷ is) n = has_part is (suc n)
has_part (JoinStart ∷ is) n = has_part is (suc n)
has_part (i ∷ is) n = has_part is n

-- whether a line must end behind the part, asked in it
unfoldable pub is_forced_behind : List Item → ℕ → Bool
is_forced_behind [] n = false
is_forced_behind (GroupEnd ∷ is) zero = is_forced is 0
is_forced_behind (ChoiceEnd ∷ is) zero = is_forced is 0
is_forced_behind (GroupEnd ∷ is) (suc n) = is_forced_behind is n
is_forced_behind (ChoiceEnd ∷ is) (suc n) = is_forced_behind is n
is_forced_behind (GroupStart ∷ is) n = is_forced_behind is (suc n)
is_forced_behind (WideStart ∷ is) n = is_forced_behind is (suc n)
is_forced_behind (ChoiceStart ∷ is) n = is_forced_behind is (suc n)
is_forced_behind (JoinStart ∷ is) n = is_forced_behind is (suc n)
is_forced_behind (i ∷ is) n = is_forced_behind is n

-- whether one must end beside it
unfoldable pub is_forced_beside : List Item → ℕ → Bool
is_forced_beside [] n = false
is_forced_beside (JoinStart ∷ is) zero = is_forced_behind is 0
is_forced_beside (GroupEnd ∷ is) zero = false
is_forced_beside (ChoiceEnd ∷ is) zero = false
is_forced_beside (GroupEnd ∷ is) (suc n) = is_forced_beside is n
is_forced_beside (ChoiceEnd ∷ is) (suc n) = is_forced_beside is n
is_forced_beside (GroupStart ∷ is) n = is_forced_beside is (suc n)
is_forced_beside (WideStart ∷ is) n = is_forced_beside is (suc n)
is_forced_beside (ChoiceStart ∷ is) n = is_forced_beside is (suc n)
is_forced_beside (JoinStart ∷ is) n = is_forced_beside is (suc n)
is_forced_beside (i ∷ is) n = must_end_a_line i || is_forced_beside is n

-- whether a line must end before its last cut, where what is kept counts for nothing; `seen` says that one must before here
unfoldable pub is_forced_before_cut : List Item → ℕ → Bool → Bool
is_forced_before_cut [] n seen = false
is_forced_before_cut (GroupEnd ∷ is) zero seen = false
is_forced_before_cut (ChoiceEnd ∷ is) zero seen = false
is_forced_before_cut (GroupEnd ∷ is) (suc n) seen = is_forced_before_cut is n seen
is_forced_before_cut (ChoiceEnd ∷ is) (suc n) seen = is_forced_before_cut is n seen
is_forced_before_cut (GroupStart ∷ is) n seen = is_forced_before_cut is (suc n) seen
is_forced_before_cut (WideStart ∷ is) n seen = is_forced_before_cut is (suc n) seen
is_forced_before_cut (ChoiceStart ∷ is) n seen = is_forced_before_cut is (suc n) seen
is_forced_before_cut (JoinStart ∷ is) n seen = is_forced_before_cut is (suc n) seen
is_forced_before_cut (i ∷ is) zero seen = (is_cut i && seen) || is_forced_before_cut is 0 (firmly_ends_a_line i || seen)
is_forced_before_cut (i ∷ is) (suc n) seen = is_forced_before_cut is (suc n) (firmly_ends_a_line i || seen)

-- the same between its head and its last cut; where it has no head, `whole` is the answer
unfoldable pub is_forced_behind_head : List Item → ℕ → Bool → Bool
is_forced_behind_head [] n whole = whole
is_forced_behind_head (HeadEnd ∷ is) zero whole = is_forced_before_cut is 0 false
is_forced_behind_head (GroupEnd ∷ is) zero whole = whole
is_forced_behind_head (ChoiceEnd ∷ is) zero whole = whole
is_forced_behind_head (GroupEnd ∷ is) (suc n) whole = is_forced_behind_head is n whole
is_forced_behind_head (ChoiceEnd ∷ is) (suc n) whole = is_forced_behind_head is n whole
is_forced_behind_head (GroupStart ∷ is) n whole = is_forced_behind_head is (suc n) whole
is_forced_behind_head (WideStart ∷ is) n whole = is_forced_behind_head is (suc n) whole
is_forced_behind_head (ChoiceStart ∷ is) n whole = is_forced_behind_head is (suc n) whole
is_forced_behind_head (JoinStart ∷ is) n whole = is_forced_behind_head is (suc n) whole
is_forced_behind_head (i ∷ is) n whole = is_forced_behind_head is n whole

-- whether it may be joined: a line must end nowhere beside the part, or nowhere between head and last cut
abbrev pub may_be_joined : List Item → Bool
may_be_joined is = cond (has_part is 0) (not (is_forced_beside is 0)) (not (is_forced_behind_head is 0 (is_forced_before_cut is 0 false)))

unfoldable mutual
  -- the columns of its first line: a group is flat but for the part, and where a line must end in it; behind its end up to the next place
  -- where a line may end
  pub first_line : (Item → Bool) → List Item → ℕ
  first_line must_end [] = 0
  first_line must_end (GroupEnd ∷ is) = first_line must_end is
  first_line must_end (ChoiceEnd ∷ is) = columns_to_break is
  first_line must_end (JoinStart ∷ is) = first_line must_end is
  first_line must_end (GroupStart ∷ is) = cond (holds must_end is 0) (first_line must_end is) (behind_flat must_end is 0)
  first_line must_end (WideStart ∷ is) = cond (holds must_end is 0) (first_line must_end is) (behind_flat must_end is 0)
  first_line must_end (ChoiceStart ∷ is) =
      cond (holds must_end is 0) (cond (may_be_joined is) (first_line must_end is) (columns_to_break is)) (behind_flat must_end is 0)
  first_line must_end (i ∷ is) = joined_columns i + cond (ends_a_joined_line i) 0 (first_line must_end is)

  -- the same in a flat group
  pub behind_flat : (Item → Bool) → List Item → ℕ → ℕ
  behind_flat must_end [] n = 0
  behind_flat must_end (GroupEnd ∷ is) zero = first_line must_end is
  behind_flat must_end (ChoiceEnd ∷ is) zero = first_line must_end is
  behind_flat must_end (GroupEnd ∷ is) (suc n) = behind_flat must_end is n
  behind_flat must_end (ChoiceEnd ∷ is) (suc n) = behind_flat must_end is n
  behind_flat must_end (GroupStart ∷ is) n = behind_flat must_end is (suc n)
  behind_flat must_end (WideStart ∷ is) n = behind_flat must_end is (suc n)
  behind_flat must_end (ChoiceStart ∷ is) n = behind_flat must_end is (suc n)
  behind_flat must_end (JoinStart ∷ is) n = behind_flat must_end is (suc n)
  behind_flat must_end (i ∷ is) n = flat_columns i + behind_flat must_end is n

-- how far it reaches when it is joined: where it has no part, what is kept is flat in its first line
abbrev pub joined_reach : List Item → ℕ
joined_reach is = cond (has_part is 0) (first_line must_end_a_line is) (first_line firmly_ends_a_line is)
