-- The pass back, one item at a time.
use Rattle.std.proofs.Common.{◌≡◌, ℕ, zero, suc, ◌+◌, ◌-◌, ◌≤◌, ◌<◌, ◌^◌, Bool, true, false, List, [], ◌∷◌, ◌++◌, get_or, length, drop, Ok, Err, Result, refl, sym, ◌∙◌, ap, subst, arith}
use Rattle.std.specs.Prelude.{cond, ◌||◌, nat_lt, reverse, OnOk}
use Rattle.std.proofs.lemmas.List.{reverse-append, drop_more}
use Rattle.layout_items.specs.declared.item.Item.{Item}
use Rattle.layout_items.specs.declared.item.Item.TheVariants.{GroupStart, WideStart, ChoiceStart, JoinStart, GroupEnd, ChoiceEnd, HeadEnd, CutLine, CutSoftLine}
use Rattle.layout_items.specs.declared.needs.Columns.{Columns}
use Rattle.layout_items.specs.declared.needs.Measures.{Measures}
use Rattle.layout_items.specs.declared.needs.Need.{Need}
use Rattle.layout_items.specs.declared.needs.Tail.{Tail}
use Rattle.layout_items.specs.Items.{must_end_a_line, firmly_ends_a_line, is_start, is_end}
use Rattle.layout_items.specs.Reach.{columns_to_break, holds, is_forced, may_be_joined, first_line}
use Rattle.layout_items.specs.Passes.{sizes, all_flat, count, past, columns_of, AreFew, HasPassed, IsBehindEnd, IsBehindStart, around, around_group, around_wide, behind_choice, before_choice, with_item, need, need_at, needs_of, joined_need, tail_of, tail_at, tail_joins, tail_need, new_tail, with_part, with_head, with_cut, with_noted, is_outside}
use Rattle.layout_items.proofs.PassedItems.{holds-count, must-mark, firm-mark, reach-is, behind-is, few, few-past}
use Rattle.layout_items.proofs.OpenGroups.{ends, part, may_join}
use Rattle.layout_items.proofs.GroupNeeds.{needs_of-start, needs_of-none}
use Rattle.layout_items.proofs.BackPass.{sizes-drop}

-- Columns

abbrev made : ℕ → ℕ → ℕ → ℕ → ℕ → ℕ → Columns
made a b c d e f = record { flat = a; forced = b; firm = c; to_break = d; to_end = e; firm_to_end = f }

same_columns : {a b c d e f g h k l m n : ℕ} → a ≡ g → b ≡ h → c ≡ k → d ≡ l → e ≡ m → f ≡ n → made a b c d e f ≡ made g h k l m n
same_columns p q r s t u = cc

either : {a b : Bool} {x y z w : ℕ} → a ≡ b → x ≡ z → y ≡ w → cond a x y ≡ cond b z w
either p q r = cc

forced_is : (is : List Item) → is_forced is 0 ≡ nat_lt (count must_end_a_line (past is 0)) (count must_end_a_line is)
forced_is is = holds-count must_end_a_line must-mark is 0

firm_is : (is : List Item) → holds firmly_ends_a_line is 0 ≡ nat_lt (count firmly_ends_a_line (past is 0)) (count firmly_ends_a_line is)
firm_is is = holds-count firmly_ends_a_line firm-mark is 0

columns-group : (is : List Item) → columns_of (GroupStart ∷ is) ≡ around_group (columns_of (past is 0)) (columns_of is)
unfolding all_flat count columns_to_break first_line
columns-group is = same_columns (omega arith) (omega arith) (omega arith) (omega arith)
    (either (forced_is is) refl (behind-is must_end_a_line is 0))
    (either (firm_is is) refl (behind-is firmly_ends_a_line is 0))

columns-wide : (is : List Item) → columns_of (WideStart ∷ is) ≡ around_wide (columns_of (past is 0)) (columns_of is)
unfolding all_flat count columns_to_break first_line
columns-wide is = same_columns (omega arith) (omega arith) (omega arith)
    (either (forced_is is) refl (reach-is is 0))
    (either (forced_is is) refl (behind-is must_end_a_line is 0))
    (either (firm_is is) refl (behind-is firmly_ends_a_line is 0))

columns-choice_by : (may : Bool) (is : List Item) → may_be_joined is ≡ may → columns_of (ChoiceStart ∷ is) ≡ cond may (around_group (columns_of (past is 0)) (columns_of is)) (around (columns_of (past is 0)) (columns_to_break is) (columns_to_break is) (columns_of is))
unfolding all_flat count columns_to_break first_line
columns-choice_by true is h = same_columns (omega arith) (omega arith) (omega arith) (omega arith)
    (either (forced_is is) (either h refl refl) (behind-is must_end_a_line is 0))
    (either (firm_is is) (either h refl refl) (behind-is firmly_ends_a_line is 0))
columns-choice_by false is h = same_columns (omega arith) (omega arith) (omega arith) (omega arith)
    (either (forced_is is) (either h refl refl) (behind-is must_end_a_line is 0))
    (either (firm_is is) (either h refl refl) (behind-is firmly_ends_a_line is 0))

columns-choice : (is : List Item) → columns_of (ChoiceStart ∷ is) ≡ before_choice (columns_of is) (tail_of is 0)
columns-choice is = rw (ends is 0) (columns-choice_by (tail_joins (columns_of is) (tail_of is 0)) is (sym (may_join is)))

columns-join : (is : List Item) → columns_of is ≡ columns_of (JoinStart ∷ is)
unfolding all_flat count columns_to_break first_line
columns-join is = same_columns (omega arith) (omega arith) (omega arith) (omega arith) refl refl

columns-end : (is : List Item) → columns_of is ≡ columns_of (GroupEnd ∷ is)
unfolding all_flat count columns_to_break first_line
columns-end is = same_columns (omega arith) (omega arith) (omega arith) (omega arith) refl refl

columns-choice_end : (is : List Item) → behind_choice (columns_of is) ≡ columns_of (ChoiceEnd ∷ is)
unfolding all_flat count columns_to_break first_line
columns-choice_end is = same_columns (omega arith) (omega arith) (omega arith) (omega arith) refl refl

columns-other : (i : Item) (is : List Item) → (is_start i || is_end i) ≡ false → with_item i (columns_of is) ≡ columns_of (i ∷ is)
unfolding all_flat count columns_to_break first_line
columns-other GroupStart is h = cc
columns-other WideStart is h = cc
columns-other ChoiceStart is h = cc
columns-other JoinStart is h = cc
columns-other GroupEnd is h = cc
columns-other ChoiceEnd is h = cc
columns-other i is h = refl

-- What a function of the pass answers, where what it is given is as it should be

pub before_group : (is : List Item) (a b r : Columns) → sizes is ≤ 2 ^ 48 → a ≡ columns_of is → b ≡ columns_of (past is 0) → (AreFew a → AreFew b → r ≡ around_group b a) → r ≡ columns_of (GroupStart ∷ is)
before_group is a b r s p q f = f (rw p (few is s)) (rw q (few-past is 0 s)) ∙ (rw (p, q) (sym (columns-group is)))

pub before_wide : (is : List Item) (a b r : Columns) → sizes is ≤ 2 ^ 48 → a ≡ columns_of is → b ≡ columns_of (past is 0) → (AreFew a → AreFew b → r ≡ around_wide b a) → r ≡ columns_of (WideStart ∷ is)
before_wide is a b r s p q f = f (rw p (few is s)) (rw q (few-past is 0 s)) ∙ (rw (p, q) (sym (columns-wide is)))

pub before_start : (is : List Item) (a r : Columns) (t : Tail) → sizes is ≤ 2 ^ 48 → a ≡ columns_of is → t ≡ tail_of is 0 → (AreFew a → AreFew t.behind → r ≡ before_choice a t) → r ≡ columns_of (ChoiceStart ∷ is)
before_start is a r t s p q f = f (rw p (few is s)) (rw (q, ends is 0) (few-past is 0 s)) ∙ (rw (p, q) (sym (columns-choice is)))

pub before_other : (i : Item) (is : List Item) (a r : Columns) → (is_start i || is_end i) ≡ false → sizes is ≤ 2 ^ 48 → a ≡ columns_of is → (AreFew a → r ≡ with_item i a) → r ≡ columns_of (i ∷ is)
before_other i is a r m s p f = f (rw p (few is s)) ∙ (rw p (columns-other i is m))

need_is : (is : List Item) → cond (nat_lt (count must_end_a_line (past is 0)) (count must_end_a_line is)) 65536 (all_flat is - all_flat (past is 0) + columns_to_break (past is 0)) ≡ need is 0
need_is is = either (sym (forced_is is)) refl (sym (reach-is is 0))

pub needs-flat : (is : List Item) (a b : Columns) (n : ℕ) → sizes is ≤ 2 ^ 48 → a ≡ columns_of is → b ≡ columns_of (past is 0) → (AreFew a → AreFew b → n ≡ cond (nat_lt b.forced a.forced) 65536 (a.flat - b.flat + b.to_break)) → n ≡ need is 0
needs-flat is a b n s p q f = f (rw p (few is s)) (rw q (few-past is 0 s)) ∙ (rw (p, q) (need_is is))

pub needs-wide : (is : List Item) (a b : Columns) (n : ℕ) → a ≡ columns_of is → b ≡ columns_of (past is 0) → n ≡ cond (nat_lt b.forced a.forced) 65536 0 → n ≡ cond (is_forced is 0) 65536 0
needs-wide is a b n p q e = e ∙ (rw (p, q) (either (sym (forced_is is)) refl refl))

joined_is : (is : List Item) → tail_need (columns_of is) (tail_of is 0) ≡ joined_need is
joined_is is = either (may_join is) (either (part is 0) refl refl) refl

pub needs-joined : (is : List Item) (a : Columns) (t : Tail) (n : ℕ) → a ≡ columns_of is → t ≡ tail_of is 0 → n ≡ tail_need a t → n ≡ joined_need is
needs-joined is a t n p q e = e ∙ (rw (p, q) (joined_is is))

-- Open groups

pub innermost-ends : (is : List Item) (t : Tail) → t ≡ tail_of is 0 → t.behind ≡ columns_of (past is 0)
innermost-ends is t e = rw e (ends is 0)

same_tails : (m k : Measures) → k.innermost ≡ m.innermost → k.outer.items ≡ m.outer.items → (n : ℕ) → tail_at k n ≡ tail_at m n
same_tails m k e f zero = e
same_tails m k e f (suc n) = rw f refl

tails-group : (is : List Item) (n : ℕ) → tail_of (GroupStart ∷ is) n ≡ tail_of is (suc n)
unfolding tail_of
tails-group is n = refl

tails-wide : (is : List Item) (n : ℕ) → tail_of (WideStart ∷ is) n ≡ tail_of is (suc n)
unfolding tail_of
tails-wide is n = refl

tails-choice : (is : List Item) (n : ℕ) → tail_of (ChoiceStart ∷ is) n ≡ tail_of is (suc n)
unfolding tail_of
tails-choice is n = refl

-- Steps

needs-start : (i : Item) (is : List Item) (v w : List Need) (n : Need) → is_start i ≡ true → v ≡ reverse (needs_of is) → w ≡ v ++ n ∷ [] → n ≡ need_at i is → w ≡ reverse (needs_of (i ∷ is))
needs-start i is v w n s e f g = f ∙ (rw (e, g, needs_of-start i is s) (sym (reverse-append (need_at i is ∷ []) (needs_of is))))

passed-start : (i : Item) (is : List Item) (old mid new : Measures) (n : Need) → is_start i ≡ true → ((k : ℕ) → tail_of (i ∷ is) k ≡ tail_of is (suc k)) → HasPassed old is → IsBehindStart old mid → new.innermost ≡ mid.innermost → new.outer.items ≡ mid.outer.items → new.needs.items ≡ old.needs.items ++ n ∷ [] → n ≡ need_at i is → new.columns ≡ columns_of (i ∷ is) → HasPassed new (i ∷ is)
passed-start i is old mid new n s t h b e f g k c = record {
  columns = c;
  tails = λ x. same_tails mid new e f x ∙ (b x ∙ (h.tails (suc x) ∙ sym (t x)));
  needs = needs-start i is old.needs.items new.needs.items n s h.needs g k;
}

pub passed-group : (is : List Item) (old mid new : Measures) (n : Need) → HasPassed old is → IsBehindStart old mid → new.innermost ≡ mid.innermost → new.outer.items ≡ mid.outer.items → new.needs.items ≡ old.needs.items ++ n ∷ [] → n ≡ need_at GroupStart is → new.columns ≡ columns_of (GroupStart ∷ is) → HasPassed new (GroupStart ∷ is)
passed-group is old mid new n = passed-start GroupStart is old mid new n refl (tails-group is)

pub passed-wide : (is : List Item) (old mid new : Measures) (n : Need) → HasPassed old is → IsBehindStart old mid → new.innermost ≡ mid.innermost → new.outer.items ≡ mid.outer.items → new.needs.items ≡ old.needs.items ++ n ∷ [] → n ≡ need_at WideStart is → new.columns ≡ columns_of (WideStart ∷ is) → HasPassed new (WideStart ∷ is)
passed-wide is old mid new n = passed-start WideStart is old mid new n refl (tails-wide is)

pub passed-choice : (is : List Item) (old mid new : Measures) (n : Need) → HasPassed old is → IsBehindStart old mid → new.innermost ≡ mid.innermost → new.outer.items ≡ mid.outer.items → new.needs.items ≡ old.needs.items ++ n ∷ [] → n ≡ need_at ChoiceStart is → new.columns ≡ columns_of (ChoiceStart ∷ is) → HasPassed new (ChoiceStart ∷ is)
passed-choice is old mid new n = passed-start ChoiceStart is old mid new n refl (tails-choice is)

join_tails : (is : List Item) (old mid new : Measures) → HasPassed old is → IsBehindStart old mid → new.innermost ≡ with_part old.columns old.innermost.behind mid.innermost → new.outer.items ≡ mid.outer.items → (k : ℕ) → tail_at new k ≡ tail_of (JoinStart ∷ is) k
unfolding tail_of
join_tails is old mid new h b e f zero =
    let p : old.innermost ≡ tail_of is 0 = h.tails 0 in
    let q : mid.innermost ≡ tail_of is 1 = b 0 ∙ h.tails 1 in
    e ∙ (rw (h.columns, p, q) refl)
join_tails is old mid new h b e f (suc k) = (rw f (b (suc k))) ∙ h.tails (suc (suc k))

pub passed-join : (is : List Item) (old mid new : Measures) (n : Need) → HasPassed old is → IsBehindStart old mid → new.innermost ≡ with_part old.columns old.innermost.behind mid.innermost → new.outer.items ≡ mid.outer.items → new.needs.items ≡ old.needs.items ++ n ∷ [] → n ≡ need_at JoinStart is → new.columns ≡ old.columns → HasPassed new (JoinStart ∷ is)
passed-join is old mid new n h b e f g k c = record {
  columns = c ∙ (h.columns ∙ columns-join is);
  tails = join_tails is old mid new h b e f;
  needs = needs-start JoinStart is old.needs.items new.needs.items n refl h.needs g k;
}

end_tails : (is : List Item) (old mid new : Measures) → HasPassed old is → IsBehindEnd old mid → new.innermost ≡ mid.innermost → new.outer.items ≡ mid.outer.items → (k : ℕ) → tail_at new k ≡ tail_of (GroupEnd ∷ is) k
unfolding tail_of
end_tails is old mid new h b e f zero = e ∙ (b.0 ∙ ap new_tail h.columns)
end_tails is old mid new h b e f (suc k) = (rw f (b.1 k)) ∙ h.tails k

end_of_choice-tails : (is : List Item) (k : ℕ) → tail_of (GroupEnd ∷ is) k ≡ tail_of (ChoiceEnd ∷ is) k
unfolding tail_of
end_of_choice-tails is zero = refl
end_of_choice-tails is (suc k) = refl

pub passed-end : (is : List Item) (old new : Measures) → HasPassed old is → IsBehindEnd old new → new.columns ≡ old.columns → new.needs.items ≡ old.needs.items → HasPassed new (GroupEnd ∷ is)
passed-end is old new h b c n = record {
  columns = c ∙ (h.columns ∙ columns-end is);
  tails = end_tails is old new new h b refl refl;
  needs = n ∙ (h.needs ∙ ap reverse (sym (needs_of-none GroupEnd is refl)));
}

pub passed-choice_end : (is : List Item) (old mid new : Measures) → HasPassed old is → IsBehindEnd old mid → new.innermost ≡ mid.innermost → new.outer.items ≡ mid.outer.items → new.columns ≡ behind_choice old.columns → new.needs.items ≡ old.needs.items → HasPassed new (ChoiceEnd ∷ is)
passed-choice_end is old mid new h b e f c n = record {
  columns = c ∙ (ap behind_choice h.columns ∙ columns-choice_end is);
  tails = λ k. end_tails is old mid new h b e f k ∙ end_of_choice-tails is k;
  needs = n ∙ (h.needs ∙ ap reverse (sym (needs_of-none ChoiceEnd is refl)));
}

-- An item that is no mark

head_tails : (is : List Item) (old new : Measures) → HasPassed old is → new.innermost ≡ with_head old.columns old.innermost → new.outer.items ≡ old.outer.items → (k : ℕ) → tail_at new k ≡ tail_of (HeadEnd ∷ is) k
unfolding tail_of
head_tails is old new h e f zero = let p : old.innermost ≡ tail_of is 0 = h.tails 0 in e ∙ (rw (h.columns, p) refl)
head_tails is old new h e f (suc k) = (rw f refl) ∙ h.tails (suc k)

cut_tails : (is : List Item) (old new : Measures) → HasPassed old is → new.innermost ≡ with_cut old.columns old.innermost → new.outer.items ≡ old.outer.items → (k : ℕ) → tail_at new k ≡ tail_of (CutLine ∷ is) k
unfolding tail_of
cut_tails is old new h e f zero = let p : old.innermost ≡ tail_of is 0 = h.tails 0 in e ∙ (rw (h.columns, p) refl)
cut_tails is old new h e f (suc k) = (rw f refl) ∙ h.tails (suc k)

soft_cut-tails : (is : List Item) (k : ℕ) → tail_of (CutLine ∷ is) k ≡ tail_of (CutSoftLine ∷ is) k
unfolding tail_of
soft_cut-tails is zero = refl
soft_cut-tails is (suc k) = refl

other_tails : (i : Item) (is : List Item) (old new : Measures) → is_outside i ≡ true → HasPassed old is → new.innermost ≡ with_noted i old.columns old.innermost → new.outer.items ≡ old.outer.items → (k : ℕ) → tail_at new k ≡ tail_of (i ∷ is) k
unfolding tail_of
other_tails GroupStart is old new o h e f k = cc
other_tails WideStart is old new o h e f k = cc
other_tails JoinStart is old new o h e f k = cc
other_tails ChoiceStart is old new o h e f k = cc
other_tails GroupEnd is old new o h e f k = cc
other_tails ChoiceEnd is old new o h e f k = cc
other_tails HeadEnd is old new o h e f k = head_tails is old new h e f k
other_tails CutLine is old new o h e f k = cut_tails is old new h e f k
other_tails CutSoftLine is old new o h e f k = cut_tails is old new h e f k ∙ soft_cut-tails is k
other_tails i is old new o h e f k = same_tails old new e f k ∙ h.tails k

outside-none : (i : Item) → is_outside i ≡ true → ((is_start i || is_end i) ≡ false) × (is_start i ≡ false)
outside-none GroupStart o = cc
outside-none WideStart o = cc
outside-none JoinStart o = cc
outside-none ChoiceStart o = cc
outside-none GroupEnd o = cc
outside-none ChoiceEnd o = cc
outside-none i o = (refl, refl)

pub passed-other : (i : Item) (is : List Item) (old new : Measures) → is_outside i ≡ true → sizes is ≤ 2 ^ 48 → HasPassed old is → new.innermost ≡ with_noted i old.columns old.innermost → new.outer.items ≡ old.outer.items → (AreFew old.columns → new.columns ≡ with_item i old.columns) → new.needs.items ≡ old.needs.items → HasPassed new (i ∷ is)
passed-other i is old new o s h e f c n = record {
  columns = before_other i is old.columns new.columns (outside-none i o).0 s h.columns c;
  tails = other_tails i is old new o h e f;
  needs = n ∙ (h.needs ∙ ap reverse (sym (needs_of-none i is (outside-none i o).1)));
}

pub outside : (i : Item) → (i ≡ GroupStart → ⊥) → (i ≡ WideStart → ⊥) → (i ≡ JoinStart → ⊥) → (i ≡ ChoiceStart → ⊥) → (i ≡ GroupEnd → ⊥) → (i ≡ ChoiceEnd → ⊥) → is_outside i ≡ true
outside GroupStart a b c d e f = absurd (a refl)
outside WideStart a b c d e f = absurd (b refl)
outside JoinStart a b c d e f = absurd (c refl)
outside ChoiceStart a b c d e f = absurd (d refl)
outside GroupEnd a b c d e f = absurd (e refl)
outside ChoiceEnd a b c d e f = absurd (f refl)
outside i a b c d e f = refl

pub ended : {E : Type 0} (r : Result (Unit {0}) E) (i : Item) (is : List Item) (old new : Measures) → i ≡ GroupEnd → HasPassed old is → OnOk r (IsBehindEnd old new) → OnOk r ((new.columns ≡ old.columns) × (new.needs ≡ old.needs)) → OnOk r (HasPassed new (i ∷ is))
ended (Ok u) i is old new e h b o = subst (λ (j : Item). HasPassed new (j ∷ is)) (sym e) (passed-end is old new h b o.0 (ap (λ v. v.items) o.1))
ended (Err x) i is old new e h b o = tt

-- All items, from the last one

pub passed_back : (items : List Item) (at : ℕ) (d : Item) (old new : Measures) → 0 < at → at ≤ length items → sizes items ≤ 2 ^ 48 → HasPassed old (drop at items) → ((is : List Item) → sizes is ≤ 2 ^ 48 → HasPassed old is → HasPassed new (get_or items (at - 1) d ∷ is)) → HasPassed new (drop (at - 1) items)
passed_back items at d old new l m s h f =
    let e : at - 1 + 1 ≡ at = omega (arith, l) in
    let few_left : sizes (drop (at - 1 + 1) items) ≤ 2 ^ 48 = (let k = sizes-drop (at - 1 + 1) items in omega (arith, k, s)) in
    let here : at - 1 < length items = omega (arith, l, m) in
    subst (λ (is : List Item). HasPassed new is) (sym (drop_more items (at - 1) d here)) (f (drop (at - 1 + 1) items) few_left (subst (λ (k : ℕ). HasPassed old (drop k items)) (sym e) h))
