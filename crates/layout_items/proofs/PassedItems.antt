-- What was passed, counted: where groups end, how far they reach, and that no sum is too great.
use Rattle.std.proofs.Common.{◌≡◌, ℕ, zero, suc, ◌+◌, ◌-◌, ◌≤◌, ◌^◌, Bool, true, false, List, [], ◌∷◌, refl, ◌∙◌, ap, arith}
use Rattle.std.proofs.lemmas.Bool.Decides.{nat_tests}
use Rattle.std.specs.Prelude.{cond, ◌||◌, nat_lt}
use Rattle.layout_items.specs.declared.item.Item.{Item}
use Rattle.layout_items.specs.declared.item.Item.TheVariants.{GroupStart, WideStart, ChoiceStart, JoinStart, GroupEnd, ChoiceEnd, CutLine, IfCut}
use Rattle.layout_items.specs.Items.{flat_columns, first_columns, joined_columns, may_end_a_line, ends_a_joined_line, must_end_a_line, firmly_ends_a_line, is_start, is_end}
use Rattle.layout_items.specs.Reach.{columns_to_break, reach, holds, is_forced, may_be_joined, first_line, behind_flat}
use Rattle.layout_items.specs.Passes.{size_of, sizes, all_flat, count, past, columns_of, AreFew}

-- Where a group ends

pub past-count : (such : Item → Bool) (is : List Item) (n : ℕ) → count such (past is n) ≤ count such is
unfolding count past
past-count such [] n = omega arith
past-count such (GroupEnd ∷ is) zero = omega arith
past-count such (ChoiceEnd ∷ is) zero = omega arith
past-count such (GroupEnd ∷ is) (suc n) = let h = past-count such is n in omega (arith, h)
past-count such (ChoiceEnd ∷ is) (suc n) = let h = past-count such is n in omega (arith, h)
past-count such (GroupStart ∷ is) n = let h = past-count such is (suc n) in omega (arith, h)
past-count such (WideStart ∷ is) n = let h = past-count such is (suc n) in omega (arith, h)
past-count such (ChoiceStart ∷ is) n = let h = past-count such is (suc n) in omega (arith, h)
past-count such (JoinStart ∷ is) n = let h = past-count such is (suc n) in omega (arith, h)
past-count such (i ∷ is) n = let h = past-count such is n in omega (arith, h)

pub past-flat : (is : List Item) (n : ℕ) → all_flat (past is n) ≤ all_flat is
unfolding all_flat past
past-flat [] n = omega arith
past-flat (GroupEnd ∷ is) zero = omega arith
past-flat (ChoiceEnd ∷ is) zero = omega arith
past-flat (GroupEnd ∷ is) (suc n) = let h = past-flat is n in omega (arith, h)
past-flat (ChoiceEnd ∷ is) (suc n) = let h = past-flat is n in omega (arith, h)
past-flat (GroupStart ∷ is) n = let h = past-flat is (suc n) in omega (arith, h)
past-flat (WideStart ∷ is) n = let h = past-flat is (suc n) in omega (arith, h)
past-flat (ChoiceStart ∷ is) n = let h = past-flat is (suc n) in omega (arith, h)
past-flat (JoinStart ∷ is) n = let h = past-flat is (suc n) in omega (arith, h)
past-flat (i ∷ is) n = let h = past-flat is n in omega (arith, h)

pub past-sizes : (is : List Item) (n : ℕ) → sizes (past is n) ≤ sizes is
unfolding sizes past
past-sizes [] n = omega arith
past-sizes (GroupEnd ∷ is) zero = omega arith
past-sizes (ChoiceEnd ∷ is) zero = omega arith
past-sizes (GroupEnd ∷ is) (suc n) = let h = past-sizes is n in omega (arith, h)
past-sizes (ChoiceEnd ∷ is) (suc n) = let h = past-sizes is n in omega (arith, h)
past-sizes (GroupStart ∷ is) n = let h = past-sizes is (suc n) in omega (arith, h)
past-sizes (WideStart ∷ is) n = let h = past-sizes is (suc n) in omega (arith, h)
past-sizes (ChoiceStart ∷ is) n = let h = past-sizes is (suc n) in omega (arith, h)
past-sizes (JoinStart ∷ is) n = let h = past-sizes is (suc n) in omega (arith, h)
past-sizes (i ∷ is) n = let h = past-sizes is n in omega (arith, h)

-- Whether a line must end before that

none_lt : (a : ℕ) (b : Bool) → b ≡ false → false ≡ nat_lt a (a + cond b 1 0)
none_lt a true h = cc
none_lt a false h = grind (arith, nat_tests)

pub one_lt : (b x : Bool) (a c : ℕ) → a ≤ c → x ≡ nat_lt a c → (b || x) ≡ nat_lt a (c + cond b 1 0)
one_lt true x a c h e = grind (arith, nat_tests, h)
one_lt false x a c h e = e ∙ ap (λ (m : ℕ). nat_lt a m) (let k : c ≡ c + 0 = omega arith in k)

mark_lt : (b x : Bool) (a c : ℕ) → b ≡ false → a ≤ c → x ≡ nat_lt a c → x ≡ nat_lt a (c + cond b 1 0)
mark_lt true x a c f h e = cc
mark_lt false x a c f h e = one_lt false x a c h e

pub holds-count : (such : Item → Bool) → ((i : Item) → (is_start i || is_end i) ≡ true → such i ≡ false) → (is : List Item) (n : ℕ) → holds such is n ≡ nat_lt (count such (past is n)) (count such is)
unfolding count past holds
holds-count such m [] n = refl
holds-count such m (GroupEnd ∷ is) zero = none_lt (count such is) (such GroupEnd) (m GroupEnd refl)
holds-count such m (ChoiceEnd ∷ is) zero = none_lt (count such is) (such ChoiceEnd) (m ChoiceEnd refl)
holds-count such m (GroupEnd ∷ is) (suc n) = mark_lt (such GroupEnd) (holds such is n) (count such (past is n)) (count such is) (m GroupEnd refl) (past-count such is n) (holds-count such m is n)
holds-count such m (ChoiceEnd ∷ is) (suc n) = mark_lt (such ChoiceEnd) (holds such is n) (count such (past is n)) (count such is) (m ChoiceEnd refl) (past-count such is n) (holds-count such m is n)
holds-count such m (GroupStart ∷ is) n = mark_lt (such GroupStart) (holds such is (suc n)) (count such (past is (suc n))) (count such is) (m GroupStart refl) (past-count such is (suc n)) (holds-count such m is (suc n))
holds-count such m (WideStart ∷ is) n = mark_lt (such WideStart) (holds such is (suc n)) (count such (past is (suc n))) (count such is) (m WideStart refl) (past-count such is (suc n)) (holds-count such m is (suc n))
holds-count such m (ChoiceStart ∷ is) n = mark_lt (such ChoiceStart) (holds such is (suc n)) (count such (past is (suc n))) (count such is) (m ChoiceStart refl) (past-count such is (suc n)) (holds-count such m is (suc n))
holds-count such m (JoinStart ∷ is) n = mark_lt (such JoinStart) (holds such is (suc n)) (count such (past is (suc n))) (count such is) (m JoinStart refl) (past-count such is (suc n)) (holds-count such m is (suc n))
holds-count such m (i ∷ is) n = one_lt (such i) (holds such is n) (count such (past is n)) (count such is) (past-count such is n) (holds-count such m is n)

pub must-mark : (i : Item) → (is_start i || is_end i) ≡ true → must_end_a_line i ≡ false
must-mark GroupStart h = refl
must-mark WideStart h = refl
must-mark ChoiceStart h = refl
must-mark JoinStart h = refl
must-mark GroupEnd h = refl
must-mark ChoiceEnd h = refl
must-mark i h = cc

pub firm-mark : (i : Item) → (is_start i || is_end i) ≡ true → firmly_ends_a_line i ≡ false
firm-mark GroupStart h = refl
firm-mark WideStart h = refl
firm-mark ChoiceStart h = refl
firm-mark JoinStart h = refl
firm-mark GroupEnd h = refl
firm-mark ChoiceEnd h = refl
firm-mark i h = cc

-- How far a group reaches that is flat

reach-flat : (is : List Item) (n : ℕ) → reach is n + all_flat (past is n) ≡ all_flat is + columns_to_break (past is n)
unfolding all_flat past reach
reach-flat [] n = refl
reach-flat (GroupEnd ∷ is) zero = omega arith
reach-flat (ChoiceEnd ∷ is) zero = omega arith
reach-flat (GroupEnd ∷ is) (suc n) = let k = reach-flat is n in omega (arith, k)
reach-flat (ChoiceEnd ∷ is) (suc n) = let k = reach-flat is n in omega (arith, k)
reach-flat (GroupStart ∷ is) n = let k = reach-flat is (suc n) in omega (arith, k)
reach-flat (WideStart ∷ is) n = let k = reach-flat is (suc n) in omega (arith, k)
reach-flat (ChoiceStart ∷ is) n = let k = reach-flat is (suc n) in omega (arith, k)
reach-flat (JoinStart ∷ is) n = let k = reach-flat is (suc n) in omega (arith, k)
reach-flat (i ∷ is) n = let k = reach-flat is n in omega (arith, k)

pub reach-is : (is : List Item) (n : ℕ) → reach is n ≡ all_flat is - all_flat (past is n) + columns_to_break (past is n)
reach-is is n = let k = reach-flat is n in let h = past-flat is n in omega (arith, k, h)

behind-flat : (must : Item → Bool) (is : List Item) (n : ℕ) → behind_flat must is n + all_flat (past is n) ≡ all_flat is + first_line must (past is n)
unfolding all_flat past behind_flat
behind-flat must [] n = refl
behind-flat must (GroupEnd ∷ is) zero = omega arith
behind-flat must (ChoiceEnd ∷ is) zero = omega arith
behind-flat must (GroupEnd ∷ is) (suc n) = let k = behind-flat must is n in omega (arith, k)
behind-flat must (ChoiceEnd ∷ is) (suc n) = let k = behind-flat must is n in omega (arith, k)
behind-flat must (GroupStart ∷ is) n = let k = behind-flat must is (suc n) in omega (arith, k)
behind-flat must (WideStart ∷ is) n = let k = behind-flat must is (suc n) in omega (arith, k)
behind-flat must (ChoiceStart ∷ is) n = let k = behind-flat must is (suc n) in omega (arith, k)
behind-flat must (JoinStart ∷ is) n = let k = behind-flat must is (suc n) in omega (arith, k)
behind-flat must (i ∷ is) n = let k = behind-flat must is n in omega (arith, k)

pub behind-is : (must : Item → Bool) (is : List Item) (n : ℕ) → behind_flat must is n ≡ all_flat is - all_flat (past is n) + first_line must (past is n)
behind-is must is n = let k = behind-flat must is n in let h = past-flat is n in omega (arith, k, h)

-- No sum is too great

none-le : (b : Bool) (x y : ℕ) → x ≤ y → cond b 0 x ≤ y
none-le true x y h = omega arith
none-le false x y h = h

either-le : (b : Bool) (x y z : ℕ) → x ≤ z → y ≤ z → cond b x y ≤ z
either-le true x y z h k = h
either-le false x y z h k = k

one-le : (b : Bool) → cond b 1 0 ≤ 1
one-le true = omega arith
one-le false = omega arith

pub count-le : (such : Item → Bool) (is : List Item) → count such is ≤ sizes is
unfolding count sizes
count-le such [] = omega arith
count-le such (i ∷ is) = let h = count-le such is in let k = one-le (such i) in omega (arith, h, k)

pub flat-le : (is : List Item) → all_flat is ≤ sizes is
unfolding all_flat sizes
flat-le [] = omega arith
flat-le (i ∷ is) = let h = flat-le is in omega (arith, h)

joined-le : (i : Item) → joined_columns i ≤ flat_columns i + first_columns i
joined-le CutLine = omega arith
joined-le (IfCut text columns) = omega arith
joined-le i = omega arith

first-le : (i : Item) (ends : Bool) (x s : ℕ) → x ≤ s → first_columns i + cond ends 0 x ≤ size_of i + s
first-le i ends x s h = let k = none-le ends x s h in omega (arith, k)

line-le : (i : Item) (ends : Bool) (x s : ℕ) → x ≤ s → joined_columns i + cond ends 0 x ≤ size_of i + s
line-le i ends x s h = let k = none-le ends x s h in let j = joined-le i in omega (arith, k, j)

mutual
  unfolding columns_to_break reach sizes

  pub break-le : (is : List Item) → columns_to_break is ≤ sizes is
  break-le [] = omega arith
  break-le (WideStart ∷ is) = let h = break-le is in let k = reach-le is 0 in let j = either-le (is_forced is 0) (columns_to_break is) (reach is 0) (sizes is) h k in omega (arith, j)
  break-le (i ∷ is) = first-le i (may_end_a_line i) (columns_to_break is) (sizes is) (break-le is)

  reach-le : (is : List Item) (n : ℕ) → reach is n ≤ sizes is
  reach-le [] n = omega arith
  reach-le (GroupEnd ∷ is) zero = let h = break-le is in omega (arith, h)
  reach-le (ChoiceEnd ∷ is) zero = let h = break-le is in omega (arith, h)
  reach-le (GroupEnd ∷ is) (suc n) = let h = reach-le is n in omega (arith, h)
  reach-le (ChoiceEnd ∷ is) (suc n) = let h = reach-le is n in omega (arith, h)
  reach-le (GroupStart ∷ is) n = let h = reach-le is (suc n) in omega (arith, h)
  reach-le (WideStart ∷ is) n = let h = reach-le is (suc n) in omega (arith, h)
  reach-le (ChoiceStart ∷ is) n = let h = reach-le is (suc n) in omega (arith, h)
  reach-le (JoinStart ∷ is) n = let h = reach-le is (suc n) in omega (arith, h)
  reach-le (i ∷ is) n = let h = reach-le is n in omega (arith, h)

mutual
  unfolding first_line behind_flat sizes

  pub first_line-le : (must : Item → Bool) (is : List Item) → first_line must is ≤ sizes is
  first_line-le must [] = omega arith
  first_line-le must (GroupEnd ∷ is) = let h = first_line-le must is in omega (arith, h)
  first_line-le must (ChoiceEnd ∷ is) = let h = break-le is in omega (arith, h)
  first_line-le must (JoinStart ∷ is) = let h = first_line-le must is in omega (arith, h)
  first_line-le must (GroupStart ∷ is) =
      let j = either-le (holds must is 0) (first_line must is) (behind_flat must is 0) (sizes is) (first_line-le must is) (behind_flat-le must is 0) in omega (arith, j)
  first_line-le must (WideStart ∷ is) =
      let j = either-le (holds must is 0) (first_line must is) (behind_flat must is 0) (sizes is) (first_line-le must is) (behind_flat-le must is 0) in omega (arith, j)
  first_line-le must (ChoiceStart ∷ is) =
      let k = either-le (may_be_joined is) (first_line must is) (columns_to_break is) (sizes is) (first_line-le must is) (break-le is) in
      let j = either-le (holds must is 0) (cond (may_be_joined is) (first_line must is) (columns_to_break is)) (behind_flat must is 0) (sizes is) k (behind_flat-le must is 0) in omega (arith, j)
  first_line-le must (i ∷ is) = line-le i (ends_a_joined_line i) (first_line must is) (sizes is) (first_line-le must is)

  behind_flat-le : (must : Item → Bool) (is : List Item) (n : ℕ) → behind_flat must is n ≤ sizes is
  behind_flat-le must [] n = omega arith
  behind_flat-le must (GroupEnd ∷ is) zero = let h = first_line-le must is in omega (arith, h)
  behind_flat-le must (ChoiceEnd ∷ is) zero = let h = first_line-le must is in omega (arith, h)
  behind_flat-le must (GroupEnd ∷ is) (suc n) = let h = behind_flat-le must is n in omega (arith, h)
  behind_flat-le must (ChoiceEnd ∷ is) (suc n) = let h = behind_flat-le must is n in omega (arith, h)
  behind_flat-le must (GroupStart ∷ is) n = let h = behind_flat-le must is (suc n) in omega (arith, h)
  behind_flat-le must (WideStart ∷ is) n = let h = behind_flat-le must is (suc n) in omega (arith, h)
  behind_flat-le must (ChoiceStart ∷ is) n = let h = behind_flat-le must is (suc n) in omega (arith, h)
  behind_flat-le must (JoinStart ∷ is) n = let h = behind_flat-le must is (suc n) in omega (arith, h)
  behind_flat-le must (i ∷ is) n = let h = behind_flat-le must is n in omega (arith, h)

pub few : (is : List Item) → sizes is ≤ 2 ^ 48 → AreFew (columns_of is)
few is h =
    let a = flat-le is in
    let b = count-le must_end_a_line is in
    let c = count-le firmly_ends_a_line is in
    let d = break-le is in
    let e = first_line-le must_end_a_line is in
    let f = first_line-le firmly_ends_a_line is in
    record { flat = omega (arith, a, h); forced = omega (arith, b, h); firm = omega (arith, c, h); to_break = omega (arith, d, h); to_end = omega (arith, e, h); firm_to_end = omega (arith, f, h) }

pub few-past : (is : List Item) (n : ℕ) → sizes is ≤ 2 ^ 48 → AreFew (columns_of (past is n))
few-past is n h = few (past is n) (let k = past-sizes is n in omega (arith, k, h))
