-- What is noted of a group that is open says where it ends, and whether a choice may be joined.
use Rattle.std.proofs.Common.{◌≡◌, ℕ, zero, suc, ◌+◌, ◌≤◌, Bool, true, false, List, [], ◌∷◌, Option, Some, None, refl, sym, ◌∙◌, ap, arith}
use Rattle.std.proofs.lemmas.Bool.Decides.{nat_tests}
use Rattle.std.specs.Prelude.{cond, not, ◌||◌, nat_lt, is_some}
use Rattle.layout_items.specs.declared.item.Item.{Item}
use Rattle.layout_items.specs.declared.item.Item.TheVariants.{GroupStart, WideStart, ChoiceStart, JoinStart, GroupEnd, ChoiceEnd, HeadEnd, CutLine, CutSoftLine}
use Rattle.layout_items.specs.declared.needs.Columns.{Columns}
use Rattle.layout_items.specs.declared.needs.Tail.{Tail}
use Rattle.layout_items.specs.Items.{must_end_a_line, firmly_ends_a_line}
use Rattle.layout_items.specs.Reach.{holds, is_forced, has_part, is_forced_behind, is_forced_beside, is_forced_before_cut, is_forced_behind_head, may_be_joined}
use Rattle.layout_items.specs.Passes.{count, past, columns_of, tail_of, or_else, is_firm_to_cut, is_firm_behind, is_beside, joins_by, tail_joins}
use Rattle.layout_items.proofs.PassedItems.{holds-count, must-mark}

-- Where it ends

pub ends : (is : List Item) (n : ℕ) → (tail_of is n).behind ≡ columns_of (past is n)
unfolding tail_of past
ends [] n = refl
ends (GroupEnd ∷ is) zero = refl
ends (ChoiceEnd ∷ is) zero = refl
ends (GroupEnd ∷ is) (suc n) = ends is n
ends (ChoiceEnd ∷ is) (suc n) = ends is n
ends (GroupStart ∷ is) n = ends is (suc n)
ends (WideStart ∷ is) n = ends is (suc n)
ends (ChoiceStart ∷ is) n = ends is (suc n)
ends (JoinStart ∷ is) zero = ends is 1
ends (JoinStart ∷ is) (suc n) = ends is (suc (suc n))
ends (HeadEnd ∷ is) zero = ends is 0
ends (HeadEnd ∷ is) (suc n) = ends is (suc n)
ends (CutLine ∷ is) zero = ends is 0
ends (CutLine ∷ is) (suc n) = ends is (suc n)
ends (CutSoftLine ∷ is) zero = ends is 0
ends (CutSoftLine ∷ is) (suc n) = ends is (suc n)
ends (i ∷ is) n = ends is n

past-past : (is : List Item) (n : ℕ) → past is (suc n) ≡ past (past is n) 0
unfolding past
past-past [] n = refl
past-past (GroupEnd ∷ is) zero = refl
past-past (ChoiceEnd ∷ is) zero = refl
past-past (GroupEnd ∷ is) (suc n) = past-past is n
past-past (ChoiceEnd ∷ is) (suc n) = past-past is n
past-past (GroupStart ∷ is) n = past-past is (suc n)
past-past (WideStart ∷ is) n = past-past is (suc n)
past-past (ChoiceStart ∷ is) n = past-past is (suc n)
past-past (JoinStart ∷ is) n = past-past is (suc n)
past-past (i ∷ is) n = past-past is n

-- The part whose lines end in the joined form

pub part : (is : List Item) (n : ℕ) → is_some (tail_of is n).behind_part ≡ has_part is n
unfolding tail_of has_part
part [] n = refl
part (GroupEnd ∷ is) zero = refl
part (ChoiceEnd ∷ is) zero = refl
part (GroupEnd ∷ is) (suc n) = part is n
part (ChoiceEnd ∷ is) (suc n) = part is n
part (GroupStart ∷ is) n = part is (suc n)
part (WideStart ∷ is) n = part is (suc n)
part (ChoiceStart ∷ is) n = part is (suc n)
part (JoinStart ∷ is) zero = refl
part (JoinStart ∷ is) (suc n) = part is (suc (suc n))
part (HeadEnd ∷ is) zero = part is 0
part (HeadEnd ∷ is) (suc n) = part is (suc n)
part (CutLine ∷ is) zero = part is 0
part (CutLine ∷ is) (suc n) = part is (suc n)
part (CutSoftLine ∷ is) zero = part is 0
part (CutSoftLine ∷ is) (suc n) = part is (suc n)
part (i ∷ is) n = part is n

pub part_within : (is : List Item) (n : ℕ) → (tail_of is n).part.forced ≤ count must_end_a_line is
unfolding tail_of count
part_within [] n = omega arith
part_within (GroupEnd ∷ is) zero = omega arith
part_within (ChoiceEnd ∷ is) zero = omega arith
part_within (GroupEnd ∷ is) (suc n) = let h = part_within is n in omega (arith, h)
part_within (ChoiceEnd ∷ is) (suc n) = let h = part_within is n in omega (arith, h)
part_within (GroupStart ∷ is) n = let h = part_within is (suc n) in omega (arith, h)
part_within (WideStart ∷ is) n = let h = part_within is (suc n) in omega (arith, h)
part_within (ChoiceStart ∷ is) n = let h = part_within is (suc n) in omega (arith, h)
part_within (JoinStart ∷ is) zero = omega arith
part_within (JoinStart ∷ is) (suc n) = let h = part_within is (suc (suc n)) in omega (arith, h)
part_within (HeadEnd ∷ is) zero = let h = part_within is 0 in omega (arith, h)
part_within (HeadEnd ∷ is) (suc n) = let h = part_within is (suc n) in omega (arith, h)
part_within (CutLine ∷ is) zero = let h = part_within is 0 in omega (arith, h)
part_within (CutLine ∷ is) (suc n) = let h = part_within is (suc n) in omega (arith, h)
part_within (CutSoftLine ∷ is) zero = let h = part_within is 0 in omega (arith, h)
part_within (CutSoftLine ∷ is) (suc n) = let h = part_within is (suc n) in omega (arith, h)
part_within (i ∷ is) n = let h = part_within is n in omega (arith, h)

forced_behind : (is : List Item) (n : ℕ) → is_forced_behind is n ≡ is_forced (past is n) 0
unfolding past is_forced_behind holds
forced_behind [] n = refl
forced_behind (GroupEnd ∷ is) zero = refl
forced_behind (ChoiceEnd ∷ is) zero = refl
forced_behind (GroupEnd ∷ is) (suc n) = forced_behind is n
forced_behind (ChoiceEnd ∷ is) (suc n) = forced_behind is n
forced_behind (GroupStart ∷ is) n = forced_behind is (suc n)
forced_behind (WideStart ∷ is) n = forced_behind is (suc n)
forced_behind (ChoiceStart ∷ is) n = forced_behind is (suc n)
forced_behind (JoinStart ∷ is) n = forced_behind is (suc n)
forced_behind (i ∷ is) n = forced_behind is n

behind_part : (is : List Item) → is_forced_behind is 0 ≡ nat_lt (tail_of is 1).behind.forced (tail_of is 0).behind.forced
behind_part is =
    let e : is_forced_behind is 0 ≡ nat_lt (count must_end_a_line (past (past is 0) 0)) (count must_end_a_line (past is 0)) = forced_behind is 0 ∙ holds-count must_end_a_line must-mark (past is 0) 0 in
    rw (ends is 1, ends is 0, past-past is 0) e

beside_more : (b x : Bool) (p n : ℕ) (o : Option Bool) → p ≤ n → is_some o ≡ true → x ≡ is_beside n p o → (b || x) ≡ is_beside (n + cond b 1 0) p o
beside_more b x p n None h s e = cc
beside_more true x p n (Some q) h s e = let k : nat_lt p (n + 1) ≡ true = grind (arith, nat_tests, h) in rw k refl
beside_more false x p n (Some q) h s e = e ∙ ap (λ (m : ℕ). nat_lt p m || q) (let k : n ≡ n + 0 = omega arith in k)

beside_part : (x q : Bool) (n : ℕ) → x ≡ q → x ≡ is_beside (n + 0) n (Some q)
beside_part x q n e = let k : nat_lt n (n + 0) ≡ false = grind (arith, nat_tests) in rw k e

pub beside : (is : List Item) (n : ℕ) → has_part is n ≡ true → is_forced_beside is n ≡ is_beside (count must_end_a_line is) (tail_of is n).part.forced (tail_of is n).behind_part
unfolding tail_of count has_part is_forced_beside
beside [] n h = cc
beside (GroupEnd ∷ is) zero h = cc
beside (ChoiceEnd ∷ is) zero h = cc
beside (GroupEnd ∷ is) (suc n) h = beside_more false (is_forced_beside is n) (tail_of is n).part.forced (count must_end_a_line is) (tail_of is n).behind_part (part_within is n) (part is n ∙ h) (beside is n h)
beside (ChoiceEnd ∷ is) (suc n) h = beside_more false (is_forced_beside is n) (tail_of is n).part.forced (count must_end_a_line is) (tail_of is n).behind_part (part_within is n) (part is n ∙ h) (beside is n h)
beside (GroupStart ∷ is) n h = beside_more false (is_forced_beside is (suc n)) (tail_of is (suc n)).part.forced (count must_end_a_line is) (tail_of is (suc n)).behind_part (part_within is (suc n)) (part is (suc n) ∙ h) (beside is (suc n) h)
beside (WideStart ∷ is) n h = beside_more false (is_forced_beside is (suc n)) (tail_of is (suc n)).part.forced (count must_end_a_line is) (tail_of is (suc n)).behind_part (part_within is (suc n)) (part is (suc n) ∙ h) (beside is (suc n) h)
beside (ChoiceStart ∷ is) n h = beside_more false (is_forced_beside is (suc n)) (tail_of is (suc n)).part.forced (count must_end_a_line is) (tail_of is (suc n)).behind_part (part_within is (suc n)) (part is (suc n) ∙ h) (beside is (suc n) h)
beside (JoinStart ∷ is) zero h = beside_part (is_forced_behind is 0) (nat_lt (tail_of is 1).behind.forced (tail_of is 0).behind.forced) (count must_end_a_line is) (behind_part is)
beside (JoinStart ∷ is) (suc n) h = beside_more false (is_forced_beside is (suc (suc n))) (tail_of is (suc (suc n))).part.forced (count must_end_a_line is) (tail_of is (suc (suc n))).behind_part (part_within is (suc (suc n))) (part is (suc (suc n)) ∙ h) (beside is (suc (suc n)) h)
beside (HeadEnd ∷ is) zero h = beside_more false (is_forced_beside is 0) (tail_of is 0).part.forced (count must_end_a_line is) (tail_of is 0).behind_part (part_within is 0) (part is 0 ∙ h) (beside is 0 h)
beside (HeadEnd ∷ is) (suc n) h = beside_more false (is_forced_beside is (suc n)) (tail_of is (suc n)).part.forced (count must_end_a_line is) (tail_of is (suc n)).behind_part (part_within is (suc n)) (part is (suc n) ∙ h) (beside is (suc n) h)
beside (CutLine ∷ is) zero h = beside_more false (is_forced_beside is 0) (tail_of is 0).part.forced (count must_end_a_line is) (tail_of is 0).behind_part (part_within is 0) (part is 0 ∙ h) (beside is 0 h)
beside (CutLine ∷ is) (suc n) h = beside_more false (is_forced_beside is (suc n)) (tail_of is (suc n)).part.forced (count must_end_a_line is) (tail_of is (suc n)).behind_part (part_within is (suc n)) (part is (suc n) ∙ h) (beside is (suc n) h)
beside (CutSoftLine ∷ is) zero h = beside_more false (is_forced_beside is 0) (tail_of is 0).part.forced (count must_end_a_line is) (tail_of is 0).behind_part (part_within is 0) (part is 0 ∙ h) (beside is 0 h)
beside (CutSoftLine ∷ is) (suc n) h = beside_more false (is_forced_beside is (suc n)) (tail_of is (suc n)).part.forced (count must_end_a_line is) (tail_of is (suc n)).behind_part (part_within is (suc n)) (part is (suc n) ∙ h) (beside is (suc n) h)
beside (i ∷ is) n h = beside_more (must_end_a_line i) (is_forced_beside is n) (tail_of is n).part.forced (count must_end_a_line is) (tail_of is n).behind_part (part_within is n) (part is n ∙ h) (beside is n h)

-- Its last cut and its head

abbrev IsWithin : Option Columns → ℕ → Type 0
IsWithin None n = Unit {0}
IsWithin (Some c) n = c.firm ≤ n

within_more : (o : Option Columns) (n : ℕ) (b : Bool) → IsWithin o n → IsWithin o (n + cond b 1 0)
within_more None n b h = tt
within_more (Some c) n b h = omega (arith, h)

within_cut : (o : Option Columns) (c : Columns) (n : ℕ) → c.firm ≤ n → IsWithin o n → IsWithin (or_else o c) (n + 0)
within_cut None c n l h = omega (arith, l)
within_cut (Some d) c n l h = omega (arith, h)

cut_within : (is : List Item) (n : ℕ) → IsWithin (tail_of is n).last_cut (count firmly_ends_a_line is)
unfolding tail_of count
cut_within [] n = tt
cut_within (GroupEnd ∷ is) zero = tt
cut_within (ChoiceEnd ∷ is) zero = tt
cut_within (GroupEnd ∷ is) (suc n) = within_more (tail_of is n).last_cut (count firmly_ends_a_line is) false (cut_within is n)
cut_within (ChoiceEnd ∷ is) (suc n) = within_more (tail_of is n).last_cut (count firmly_ends_a_line is) false (cut_within is n)
cut_within (GroupStart ∷ is) n = within_more (tail_of is (suc n)).last_cut (count firmly_ends_a_line is) false (cut_within is (suc n))
cut_within (WideStart ∷ is) n = within_more (tail_of is (suc n)).last_cut (count firmly_ends_a_line is) false (cut_within is (suc n))
cut_within (ChoiceStart ∷ is) n = within_more (tail_of is (suc n)).last_cut (count firmly_ends_a_line is) false (cut_within is (suc n))
cut_within (JoinStart ∷ is) zero = within_more (tail_of is 1).last_cut (count firmly_ends_a_line is) false (cut_within is 1)
cut_within (JoinStart ∷ is) (suc n) = within_more (tail_of is (suc (suc n))).last_cut (count firmly_ends_a_line is) false (cut_within is (suc (suc n)))
cut_within (HeadEnd ∷ is) zero = within_more (tail_of is 0).last_cut (count firmly_ends_a_line is) false (cut_within is 0)
cut_within (HeadEnd ∷ is) (suc n) = within_more (tail_of is (suc n)).last_cut (count firmly_ends_a_line is) false (cut_within is (suc n))
cut_within (CutLine ∷ is) zero = within_cut (tail_of is 0).last_cut (columns_of is) (count firmly_ends_a_line is) (omega arith) (cut_within is 0)
cut_within (CutLine ∷ is) (suc n) = within_more (tail_of is (suc n)).last_cut (count firmly_ends_a_line is) false (cut_within is (suc n))
cut_within (CutSoftLine ∷ is) zero = within_cut (tail_of is 0).last_cut (columns_of is) (count firmly_ends_a_line is) (omega arith) (cut_within is 0)
cut_within (CutSoftLine ∷ is) (suc n) = within_more (tail_of is (suc n)).last_cut (count firmly_ends_a_line is) false (cut_within is (suc n))
cut_within (i ∷ is) n = within_more (tail_of is n).last_cut (count firmly_ends_a_line is) (firmly_ends_a_line i) (cut_within is n)

head_within : (is : List Item) (n : ℕ) → IsWithin (tail_of is n).head (count firmly_ends_a_line is)
unfolding tail_of count
head_within [] n = tt
head_within (GroupEnd ∷ is) zero = tt
head_within (ChoiceEnd ∷ is) zero = tt
head_within (GroupEnd ∷ is) (suc n) = within_more (tail_of is n).head (count firmly_ends_a_line is) false (head_within is n)
head_within (ChoiceEnd ∷ is) (suc n) = within_more (tail_of is n).head (count firmly_ends_a_line is) false (head_within is n)
head_within (GroupStart ∷ is) n = within_more (tail_of is (suc n)).head (count firmly_ends_a_line is) false (head_within is (suc n))
head_within (WideStart ∷ is) n = within_more (tail_of is (suc n)).head (count firmly_ends_a_line is) false (head_within is (suc n))
head_within (ChoiceStart ∷ is) n = within_more (tail_of is (suc n)).head (count firmly_ends_a_line is) false (head_within is (suc n))
head_within (JoinStart ∷ is) zero = within_more (tail_of is 1).head (count firmly_ends_a_line is) false (head_within is 1)
head_within (JoinStart ∷ is) (suc n) = within_more (tail_of is (suc (suc n))).head (count firmly_ends_a_line is) false (head_within is (suc (suc n)))
head_within (HeadEnd ∷ is) zero = within_more (Some (columns_of is)) (count firmly_ends_a_line is) false (omega arith)
head_within (HeadEnd ∷ is) (suc n) = within_more (tail_of is (suc n)).head (count firmly_ends_a_line is) false (head_within is (suc n))
head_within (CutLine ∷ is) zero = within_more (tail_of is 0).head (count firmly_ends_a_line is) false (head_within is 0)
head_within (CutLine ∷ is) (suc n) = within_more (tail_of is (suc n)).head (count firmly_ends_a_line is) false (head_within is (suc n))
head_within (CutSoftLine ∷ is) zero = within_more (tail_of is 0).head (count firmly_ends_a_line is) false (head_within is 0)
head_within (CutSoftLine ∷ is) (suc n) = within_more (tail_of is (suc n)).head (count firmly_ends_a_line is) false (head_within is (suc n))
head_within (i ∷ is) n = within_more (tail_of is n).head (count firmly_ends_a_line is) (firmly_ends_a_line i) (head_within is n)

cut_more : (firm seen x : Bool) (n : ℕ) (o : Option Columns) → IsWithin o n → x ≡ is_firm_to_cut (firm || seen) n o → x ≡ is_firm_to_cut seen (n + cond firm 1 0) o
cut_more firm seen x n None h e = e
cut_more true seen x n (Some c) h e = let k : nat_lt c.firm (n + 1) ≡ true = grind (arith, nat_tests, h) in rw k (e ∙ or_true seen)
  where
    or_true : (b : Bool) → true ≡ (b || true)
    or_true true = refl
    or_true false = refl
cut_more false seen x n (Some c) h e = e ∙ ap (λ (m : ℕ). seen || nat_lt c.firm m) (let k : n ≡ n + 0 = omega arith in k)

cut_here : (seen x : Bool) (n : ℕ) (c : Columns) (o : Option Columns) → c.firm ≡ n → x ≡ is_firm_to_cut seen n o → (seen || x) ≡ is_firm_to_cut seen (n + 0) (or_else o c)
cut_here true x n c None l e = refl
cut_here false x n c None l e = let k : nat_lt c.firm (n + 0) ≡ false = grind (arith, nat_tests, l) in rw k e
cut_here true x n c (Some d) l e = refl
cut_here false x n c (Some d) l e = e ∙ ap (λ (m : ℕ). nat_lt d.firm m) (let k : n ≡ n + 0 = omega arith in k)

pub cut : (is : List Item) (n : ℕ) (seen : Bool) → is_forced_before_cut is n seen ≡ is_firm_to_cut seen (count firmly_ends_a_line is) (tail_of is n).last_cut
unfolding tail_of count is_forced_before_cut
cut [] n seen = refl
cut (GroupEnd ∷ is) zero seen = refl
cut (ChoiceEnd ∷ is) zero seen = refl
cut (GroupEnd ∷ is) (suc n) seen = cut_more false seen (is_forced_before_cut is n seen) (count firmly_ends_a_line is) (tail_of is n).last_cut (cut_within is n) (cut is n seen)
cut (ChoiceEnd ∷ is) (suc n) seen = cut_more false seen (is_forced_before_cut is n seen) (count firmly_ends_a_line is) (tail_of is n).last_cut (cut_within is n) (cut is n seen)
cut (GroupStart ∷ is) n seen = cut_more false seen (is_forced_before_cut is (suc n) seen) (count firmly_ends_a_line is) (tail_of is (suc n)).last_cut (cut_within is (suc n)) (cut is (suc n) seen)
cut (WideStart ∷ is) n seen = cut_more false seen (is_forced_before_cut is (suc n) seen) (count firmly_ends_a_line is) (tail_of is (suc n)).last_cut (cut_within is (suc n)) (cut is (suc n) seen)
cut (ChoiceStart ∷ is) n seen = cut_more false seen (is_forced_before_cut is (suc n) seen) (count firmly_ends_a_line is) (tail_of is (suc n)).last_cut (cut_within is (suc n)) (cut is (suc n) seen)
cut (JoinStart ∷ is) zero seen = cut_more false seen (is_forced_before_cut is 1 seen) (count firmly_ends_a_line is) (tail_of is 1).last_cut (cut_within is 1) (cut is 1 seen)
cut (JoinStart ∷ is) (suc n) seen = cut_more false seen (is_forced_before_cut is (suc (suc n)) seen) (count firmly_ends_a_line is) (tail_of is (suc (suc n))).last_cut (cut_within is (suc (suc n))) (cut is (suc (suc n)) seen)
cut (HeadEnd ∷ is) zero seen = cut_more false seen (is_forced_before_cut is 0 seen) (count firmly_ends_a_line is) (tail_of is 0).last_cut (cut_within is 0) (cut is 0 seen)
cut (HeadEnd ∷ is) (suc n) seen = cut_more false seen (is_forced_before_cut is (suc n) seen) (count firmly_ends_a_line is) (tail_of is (suc n)).last_cut (cut_within is (suc n)) (cut is (suc n) seen)
cut (CutLine ∷ is) zero seen = cut_here seen (is_forced_before_cut is 0 seen) (count firmly_ends_a_line is) (columns_of is) (tail_of is 0).last_cut refl (cut is 0 seen)
cut (CutLine ∷ is) (suc n) seen = cut_more false seen (is_forced_before_cut is (suc n) seen) (count firmly_ends_a_line is) (tail_of is (suc n)).last_cut (cut_within is (suc n)) (cut is (suc n) seen)
cut (CutSoftLine ∷ is) zero seen = cut_here seen (is_forced_before_cut is 0 seen) (count firmly_ends_a_line is) (columns_of is) (tail_of is 0).last_cut refl (cut is 0 seen)
cut (CutSoftLine ∷ is) (suc n) seen = cut_more false seen (is_forced_before_cut is (suc n) seen) (count firmly_ends_a_line is) (tail_of is (suc n)).last_cut (cut_within is (suc n)) (cut is (suc n) seen)
cut (i ∷ is) zero seen = cut_more (firmly_ends_a_line i) seen (is_forced_before_cut is 0 (firmly_ends_a_line i || seen)) (count firmly_ends_a_line is) (tail_of is 0).last_cut (cut_within is 0) (cut is 0 (firmly_ends_a_line i || seen))
cut (i ∷ is) (suc n) seen = cut_more (firmly_ends_a_line i) seen (is_forced_before_cut is (suc n) (firmly_ends_a_line i || seen)) (count firmly_ends_a_line is) (tail_of is (suc n)).last_cut (cut_within is (suc n)) (cut is (suc n) (firmly_ends_a_line i || seen))

head_cut : (h o : Option Columns) (c : Columns) (x whole : Bool) → IsWithin h c.firm → x ≡ is_firm_behind h o whole → x ≡ is_firm_behind h (or_else o c) whole
head_cut None o c x whole l e = e
head_cut (Some h) None c x whole l e = let k : nat_lt c.firm h.firm ≡ false = grind (arith, nat_tests, l) in rw k e
head_cut (Some h) (Some d) c x whole l e = e

pub head : (is : List Item) (n : ℕ) (whole : Bool) → is_forced_behind_head is n whole ≡ is_firm_behind (tail_of is n).head (tail_of is n).last_cut whole
unfolding tail_of is_forced_behind_head
head [] n whole = refl
head (GroupEnd ∷ is) zero whole = refl
head (ChoiceEnd ∷ is) zero whole = refl
head (GroupEnd ∷ is) (suc n) whole = head is n whole
head (ChoiceEnd ∷ is) (suc n) whole = head is n whole
head (GroupStart ∷ is) n whole = head is (suc n) whole
head (WideStart ∷ is) n whole = head is (suc n) whole
head (ChoiceStart ∷ is) n whole = head is (suc n) whole
head (JoinStart ∷ is) zero whole = head is 1 whole
head (JoinStart ∷ is) (suc n) whole = head is (suc (suc n)) whole
head (HeadEnd ∷ is) zero whole = cut is 0 false
head (HeadEnd ∷ is) (suc n) whole = head is (suc n) whole
head (CutLine ∷ is) zero whole = head_cut (tail_of is 0).head (tail_of is 0).last_cut (columns_of is) (is_forced_behind_head is 0 whole) whole (head_within is 0) (head is 0 whole)
head (CutLine ∷ is) (suc n) whole = head is (suc n) whole
head (CutSoftLine ∷ is) zero whole = head_cut (tail_of is 0).head (tail_of is 0).last_cut (columns_of is) (is_forced_behind_head is 0 whole) whole (head_within is 0) (head is 0 whole)
head (CutSoftLine ∷ is) (suc n) whole = head is (suc n) whole
head (i ∷ is) n whole = head is n whole

-- Whether it may be joined

joins : (before : Columns) (t : Tail) (o : Option Bool) (has beside behind_head : Bool) → is_some o ≡ has → (has ≡ true → beside ≡ is_beside before.forced t.part.forced o) → behind_head ≡ is_firm_behind t.head t.last_cut (is_firm_to_cut false before.firm t.last_cut) → joins_by before t o ≡ cond has (not beside) (not behind_head)
joins before t None true a b s h k = cc
joins before t None false a b s h k = ap not (sym k)
joins before t (Some q) true a b s h k = ap not (sym (h refl))
joins before t (Some q) false a b s h k = cc

pub may_join : (is : List Item) → tail_joins (columns_of is) (tail_of is 0) ≡ may_be_joined is
may_join is =
    let t = tail_of is 0 in
    let k : is_forced_behind_head is 0 (is_forced_before_cut is 0 false) ≡ is_firm_behind t.head t.last_cut (is_firm_to_cut false (count firmly_ends_a_line is) t.last_cut) = head is 0 (is_forced_before_cut is 0 false) ∙ ap (λ (b : Bool). is_firm_behind t.head t.last_cut b) (cut is 0 false) in
    joins (columns_of is) t t.behind_part (has_part is 0) (is_forced_beside is 0) (is_forced_behind_head is 0 (is_forced_before_cut is 0 false)) (part is 0) (beside is 0) k
