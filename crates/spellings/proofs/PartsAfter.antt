-- The parts from a place on, and a tail over them.
use Rattle.std.proofs.Common.{◌≡◌, ℕ, zero, suc, ◌+◌, ◌-◌, ◌<◌, ◌≤◌, Bool, true, false, cond, nat_eq, List, [], ◌∷◌, Option, Some, None, refl, sym, arith, ap, ◌∙◌, add-one}
use Rattle.std.proofs.lemmas.Bool.{false≢true}
use Rattle.std.proofs.lemmas.Bool.Decides.{nat_tests}
use Rattle.tree.specs.declared.kind.Kind.{Kind}
use Rattle.tree.specs.Tree.{Tree, Parts, none, part, gap, kind_of, flags_of, part_count, part_at}
use Rattle.std.specs.Prelude.{not, ◌||◌}
use Rattle.language.specs.Vocabulary.{is_rest}
use Rattle.language.specs.Pieces.{is_none, Slot}
use Rattle.spelling_table.specs.declared.position.Slot as own
use Rattle.spelling_table.specs.declared.outline.ListSlots.{ListSlots}
use Rattle.spelling_table.specs.declared.outline.ListSlots.TheVariants as tail
use Rattle.spelling_table.specs.Outlines.{parts_after, is_before_last, tail_slots, going, before, slot_of, is_over, skips_gap, may_end, part_of_tail, argument_at, tail_at, takes_all, is_arguments}
use Rattle.spelling_table.specs.declared.position.Slot.TheVariants as own-V
use Rattle.spellings.specs.Remaining.{goes_over, slots_left, left_of, are_whole, are_plain}

behind-none : (i : ℕ) → parts_after i none ≡ none
behind-none zero = refl
behind-none (suc i) = behind-none i

pub some-suc : (ps : Parts) (i : ℕ) (u : Tree) → Some u ≡ part_at ps i → parts_after i ps ≡ part u (parts_after (suc i) ps)
some-suc none i u h = absurd (cc)
some-suc (part t ps) zero u h = let same : t ≡ u = cc in ap (λ v. part v ps) same
some-suc (part t ps) (suc i) u h = some-suc ps i u h
some-suc (gap ps) zero u h = absurd (cc)
some-suc (gap ps) (suc i) u h = some-suc ps i u h

pub gap-suc : (ps : Parts) (i : ℕ) → None ≡ part_at ps i → i < part_count ps → parts_after i ps ≡ gap (parts_after (suc i) ps)
gap-suc none i h l = absurd (omega (arith, l))
gap-suc (part t ps) zero h l = absurd (cc)
gap-suc (part t ps) (suc i) h l = gap-suc ps i h (omega (arith, l))
gap-suc (gap ps) zero h l = refl
gap-suc (gap ps) (suc i) h l = gap-suc ps i h (omega (arith, l))

pub behind-past : (ps : Parts) (i : ℕ) → part_count ps ≤ i → parts_after i ps ≡ none
behind-past none i h = behind-none i
behind-past (part t ps) zero h = absurd (omega (arith, h))
behind-past (part t ps) (suc i) h = behind-past ps i (omega (arith, h))
behind-past (gap ps) zero h = absurd (omega (arith, h))
behind-past (gap ps) (suc i) h = behind-past ps i (omega (arith, h))

pub count-behind : (ps : Parts) (i : ℕ) → i ≤ part_count ps → part_count (parts_after i ps) + i ≡ part_count ps
count-behind ps zero h = omega arith
count-behind none (suc i) h = absurd (omega (arith, h))
count-behind (part t ps) (suc i) h = omega (arith, count-behind ps i (omega (arith, h)))
count-behind (gap ps) (suc i) h = omega (arith, count-behind ps i (omega (arith, h)))

pub none-count : (ps : Parts) → nat_eq (part_count ps) 0 ≡ is_none ps
none-count none = refl
none-count (part t ps) = grind (arith, nat_tests)
none-count (gap ps) = grind (arith, nat_tests)

one-more : (n : ℕ) → nat_eq (n + 1) 1 ≡ nat_eq n 0
one-more n = grind (arith, nat_tests)

pub before-count : (ps : Parts) → nat_eq (part_count ps) 1 ≡ is_before_last ps
before-count none = refl
before-count (part t ps) = one-more (part_count ps) ∙ none-count ps
before-count (gap ps) = one-more (part_count ps) ∙ none-count ps

pub left-count : (ps : Parts) (i : ℕ) → i < part_count ps → (part_count ps - i) - 1 ≡ part_count (parts_after (suc i) ps)
left-count ps i h = let e : part_count (parts_after (suc i) ps) + suc i ≡ part_count ps = count-behind ps (suc i) (omega (arith, h)) in omega (arith, e)

pub last-behind : (ps : Parts) (i : ℕ) → i < part_count ps → nat_eq ((part_count ps - i) - 1) 0 ≡ is_none (parts_after (suc i) ps)
last-behind ps i h = ap (λ n. nat_eq n 0) (left-count ps i h) ∙ none-count (parts_after (suc i) ps)

pub before-behind : (ps : Parts) (i : ℕ) → i < part_count ps → nat_eq ((part_count ps - i) - 1) 1 ≡ is_before_last (parts_after (suc i) ps)
before-behind ps i h = ap (λ n. nat_eq n 1) (left-count ps i h) ∙ before-count (parts_after (suc i) ps)

-- Whether a tail goes over the parts from a place on

over_slots : (t : ListSlots) (ps : Parts) → is_over t ≡ true → tail_slots t ps ≡ Some []
over_slots tail.Nothing none h = refl
over_slots tail.Nothing (part n ps) h = refl
over_slots tail.Nothing (gap ps) h = refl
over_slots _ ps h = absurd (cc)

pub over_runs : (t : ListSlots) (ps : Parts) → is_over t ≡ true → true ≡ goes_over (tail_slots t ps)
over_runs t ps h = sym (ap goes_over (over_slots t ps h))

pub end_runs : (t : ListSlots) (ps : Parts) (i : ℕ) → part_count ps ≤ i → may_end t ≡ goes_over (tail_slots t (parts_after i ps))
end_runs t ps i h = of (may_end t) ∙ sym (ap (λ qs. goes_over (tail_slots t qs)) (behind-past ps i h))
  where
    of : (b : Bool) → b ≡ goes_over (cond b (Some []) None)
    of true = refl
    of false = refl

pub gap_stops : (t : ListSlots) (ps : Parts) (i : ℕ) → None ≡ part_at ps i → i < part_count ps → is_over t ≡ false → skips_gap t ≡ false → false ≡ goes_over (tail_slots t (parts_after i ps))
gap_stops t ps i h l o s = sym (ap (λ qs. goes_over (tail_slots t qs)) (gap-suc ps i h l) ∙ (rw (o, s) refl))

pub gap_passes : (t : ListSlots) (ps : Parts) (i : ℕ) → None ≡ part_at ps i → i < part_count ps → is_over t ≡ false → skips_gap t ≡ true →
    goes_over (tail_slots t (parts_after (i + 1) ps)) ≡ goes_over (tail_slots t (parts_after i ps))
gap_passes t ps i h l o s = rw (add-one i) (sym (ap (λ qs. goes_over (tail_slots t qs)) (gap-suc ps i h l) ∙ (rw (o, s) refl)))

before_over : (s : Slot) (x : Option (List Slot)) → goes_over (before s x) ≡ goes_over x
before_over s None = refl
before_over s (Some xs) = refl

pub part_stops : (t : ListSlots) (ps : Parts) (i : ℕ) (u : Tree) → Some u ≡ part_at ps i → is_over t ≡ false → None ≡ part_of_tail t u (parts_after (suc i) ps) →
    false ≡ goes_over (tail_slots t (parts_after i ps))
part_stops t ps i u h o e = sym (ap (λ qs. goes_over (tail_slots t qs)) (some-suc ps i u h) ∙ (rw (o, ← e) refl))

pub part_passes : (t : ListSlots) (ps : Parts) (i : ℕ) (u : Tree) (x : own.Slot × ListSlots) → Some u ≡ part_at ps i → is_over t ≡ false → Some x ≡ part_of_tail t u (parts_after (suc i) ps) →
    goes_over (tail_slots x.1 (parts_after (i + 1) ps)) ≡ goes_over (tail_slots t (parts_after i ps))
part_passes t ps i u x h o e = rw (add-one i) (sym (ap (λ qs. goes_over (tail_slots t qs)) (some-suc ps i u h) ∙ (rw (o, ← e) (before_over (slot_of x.0) (tail_slots x.1 (parts_after (suc i) ps))))))

-- What is left of a tail

pub over_left : (t : ListSlots) (ps : Parts) → is_over t ≡ true → slots_left t ps ≡ []
over_left tail.Nothing none h = refl
over_left tail.Nothing (part n ps) h = refl
over_left tail.Nothing (gap ps) h = refl
over_left _ ps h = absurd (cc)

pub end_left : (t : ListSlots) (ps : Parts) (i : ℕ) → part_count ps ≤ i → slots_left t (parts_after i ps) ≡ []
end_left t ps i h = ap (slots_left t) (behind-past ps i h)

pub gap_left : (t : ListSlots) (ps : Parts) (i : ℕ) → None ≡ part_at ps i → i < part_count ps → is_over t ≡ false → skips_gap t ≡ false → slots_left t (parts_after i ps) ≡ []
gap_left t ps i h l o s = ap (slots_left t) (gap-suc ps i h l) ∙ (rw (o, s) refl)

pub gap_skipped : (t : ListSlots) (ps : Parts) (i : ℕ) → None ≡ part_at ps i → i < part_count ps → is_over t ≡ false → skips_gap t ≡ true → slots_left t (parts_after (i + 1) ps) ≡ slots_left t (parts_after i ps)
gap_skipped t ps i h l o s = rw (add-one i) (sym (ap (slots_left t) (gap-suc ps i h l) ∙ (rw (o, s) refl)))

pub part_left : (t : ListSlots) (ps : Parts) (i : ℕ) (u : Tree) → Some u ≡ part_at ps i → is_over t ≡ false → slots_left t (parts_after i ps) ≡ left_of (λ v. slots_left v (parts_after (suc i) ps)) (part_of_tail t u (parts_after (suc i) ps))
part_left t ps i u h o = ap (slots_left t) (some-suc ps i u h) ∙ (rw o refl)

-- where a tail goes over the parts, it gives what is left
known_before : (s : Slot) (x : Option (List Slot)) (xs ys : List Slot) → before s x ≡ Some xs → ((zs : List Slot) → x ≡ Some zs → ys ≡ zs) → s ∷ ys ≡ xs
known_before s None xs ys h k = absurd (cc)
known_before s (Some zs) xs ys h k = let e : s ∷ zs ≡ xs = cc in ap (λ vs. s ∷ vs) (k zs refl) ∙ e

some_same : (xs ys : List Slot) → ◌≡◌ {A = Option (List Slot)} (Some xs) (Some ys) → xs ≡ ys
some_same xs ys h = cc

pub slots_known : (t : ListSlots) (ps : Parts) (xs : List Slot) → tail_slots t ps ≡ Some xs → slots_left t ps ≡ xs
slots_known t none xs h = of (may_end t) h
  where
    of : (b : Bool) → cond b (Some []) None ≡ Some xs → [] ≡ xs
    of true e = some_same [] xs e
    of false e = absurd (cc)
slots_known t (gap ps) xs h = of (is_over t) (skips_gap t) h (slots_known t ps xs)
  where
    of : (b c : Bool) → cond b (Some []) (cond c (tail_slots t ps) None) ≡ Some xs → (tail_slots t ps ≡ Some xs → slots_left t ps ≡ xs) → cond b [] (cond c (slots_left t ps) []) ≡ xs
    of true c e k = some_same [] xs e
    of false true e k = k e
    of false false e k = absurd (cc)
slots_known t (part n ps) xs h = of (is_over t) (part_of_tail t n ps) h (λ u zs. slots_known u ps zs)
  where
    of : (b : Bool) (x : Option (own.Slot × ListSlots)) → cond b (Some []) (going (λ u. tail_slots u ps) x) ≡ Some xs → ((u : ListSlots) (zs : List Slot) → tail_slots u ps ≡ Some zs → slots_left u ps ≡ zs) →
        cond b [] (left_of (λ u. slots_left u ps) x) ≡ xs
    of true x e k = some_same [] xs e
    of false None e k = absurd (cc)
    of false (Some x) e k = known_before (slot_of x.0) (tail_slots x.1 ps) xs (slots_left x.1 ps) e (k x.1)

-- so many parts stand behind the one at a place
pub left-behind : (ps : Parts) (n i : ℕ) → n ≡ part_count ps → i < n → part_count (parts_after (suc i) ps) ≡ (n - i) - 1
left-behind ps n i e h = sym (ap (λ m. (m - i) - 1) e ∙ left-count ps i (omega (arith, e, h)))

-- Lists in which nothing but a gap or a rest is refused

each_over : (x : own.Slot) (ps : Parts) → are_whole ps ≡ goes_over (tail_slots (tail.Each x) ps)
each_over x none = refl
each_over x (gap ps) = refl
each_over x (part n ps) = each_over x ps ∙ sym (before_over (slot_of x) (tail_slots (tail.Each x) ps))

prologue_over : (r b : Bool) (ps : Parts) → are_whole ps ≡ goes_over (tail_slots (tail.Prologue r b) ps)
prologue_over r b none = refl
prologue_over r b (gap ps) = refl
prologue_over r b (part n ps) = prologue_over r _ ps ∙ sym (before_over _ (tail_slots (tail.Prologue r _) ps))

modules_over : (b : Bool) (ps : Parts) → are_whole ps ≡ goes_over (tail_slots (tail.ModuleItems b) ps)
modules_over b none = refl
modules_over b (gap ps) = refl
modules_over b (part n ps) = modules_over _ ps ∙ sym (before_over _ (tail_slots (tail.ModuleItems _) ps))

pub whole_over : (t : ListSlots) (ps : Parts) → takes_all t ≡ true → are_whole ps ≡ goes_over (tail_slots t ps)
whole_over (tail.Each x) ps h = each_over x ps
whole_over (tail.Prologue r b) ps h = prologue_over r b ps
whole_over (tail.ModuleItems b) ps h = modules_over b ps
whole_over _ ps h = absurd (false≢true h)

arguments_over : (h : Bool) (ps : Parts) → are_plain ps ≡ true → goes_over (tail_slots (tail.Arguments h) ps) ≡ true
arguments_over h none e = refl
arguments_over h (gap ps) e = absurd (false≢true e)
arguments_over h (part n ps) e = taken (is_rest (kind_of n)) (is_none ps) e (arguments_over h ps)
  where
    taken : (b l : Bool) → cond b false (are_plain ps) ≡ true → (are_plain ps ≡ true → goes_over (tail_slots (tail.Arguments h) ps) ≡ true) →
        goes_over (going (λ u. tail_slots u ps) (cond (l || not b) (Some (own-V.Fixed (argument_at (kind_of n)), tail.Arguments h)) None)) ≡ true
    taken true l k f = absurd (false≢true k)
    taken false true k f = before_over _ (tail_slots (tail.Arguments h) ps) ∙ f k
    taken false false k f = before_over _ (tail_slots (tail.Arguments h) ps) ∙ f k

pub plain_over : (t : ListSlots) (ps : Parts) → is_arguments t ≡ true → are_plain ps ≡ true → goes_over (tail_slots t ps) ≡ true
plain_over (tail.Arguments h) ps a e = arguments_over h ps e
plain_over _ ps a e = absurd (false≢true a)

-- a part of a list that goes on so
pub steady_left : (t : ListSlots) (ps : Parts) (i : ℕ) (u : Tree) (x : own.Slot) → Some u ≡ part_at ps i → is_over t ≡ false → part_of_tail t u (parts_after (suc i) ps) ≡ Some (x, t) →
    slots_left t (parts_after i ps) ≡ slot_of x ∷ slots_left t (parts_after (i + 1) ps)
steady_left t ps i u x h o e = part_left t ps i u h o ∙ ap (left_of (λ v. slots_left v (parts_after (suc i) ps))) e ∙ ap (λ j. slot_of x ∷ slots_left t (parts_after j ps)) (sym (add-one i))

pub steady_part : (t : ListSlots) (k : Kind) (u : Tree) (qs : Parts) (x : own.Slot) → k ≡ kind_of u → ((d l b : Bool) → tail_at t k d l b ≡ Some (x, t)) → part_of_tail t u qs ≡ Some (x, t)
steady_part t k u qs x e h = ap (λ j. tail_at t j (flags_of u).directive (is_none qs) (is_before_last qs)) (sym e) ∙ h (flags_of u).directive (is_none qs) (is_before_last qs)

pub whole-some : (ps : Parts) (i : ℕ) (u : Tree) → Some u ≡ part_at ps i → are_whole (parts_after (i + 1) ps) ≡ are_whole (parts_after i ps)
whole-some ps i u h = rw (add-one i) (sym (ap are_whole (some-suc ps i u h)))

pub whole-gap : (ps : Parts) (i : ℕ) → None ≡ part_at ps i → i < part_count ps → false ≡ are_whole (parts_after i ps)
whole-gap ps i h l = sym (ap are_whole (gap-suc ps i h l))

pub whole-past : (ps : Parts) (i : ℕ) → part_count ps ≤ i → true ≡ are_whole (parts_after i ps)
whole-past ps i h = sym (ap are_whole (behind-past ps i h))

pub plain-some : (ps : Parts) (i : ℕ) (u : Tree) → Some u ≡ part_at ps i → is_rest (kind_of u) ≡ false → are_plain (parts_after (i + 1) ps) ≡ are_plain (parts_after i ps)
plain-some ps i u h r = rw (add-one i) (sym (ap are_plain (some-suc ps i u h) ∙ ap (λ b. cond b false (are_plain (parts_after (suc i) ps))) r))

pub plain-rest : (ps : Parts) (i : ℕ) (u : Tree) → Some u ≡ part_at ps i → is_rest (kind_of u) ≡ true → false ≡ are_plain (parts_after i ps)
plain-rest ps i u h r = sym (ap are_plain (some-suc ps i u h) ∙ ap (λ b. cond b false (are_plain (parts_after (suc i) ps))) r)

pub plain-gap : (ps : Parts) (i : ℕ) → None ≡ part_at ps i → i < part_count ps → false ≡ are_plain (parts_after i ps)
plain-gap ps i h l = sym (ap are_plain (gap-suc ps i h l))

pub plain-past : (ps : Parts) (i : ℕ) → part_count ps ≤ i → true ≡ are_plain (parts_after i ps)
plain-past ps i h = sym (ap are_plain (behind-past ps i h))

-- What loops over them need
pub ruleset whole_steps = (whole-some, whole-gap, whole-past, plain-some, plain-rest, plain-gap, plain-past)
