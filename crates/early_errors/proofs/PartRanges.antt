-- Ranges of a node's parts, as a walk goes over them.
use Rattle.std.proofs.Common.{◌≡◌, ℕ, zero, suc, ◌+◌, ◌-◌, ◌<◌, ◌≤◌, Bool, true, false, cond, nat_eq, List, [], ◌++◌, None, ◌⊎◌, inl, inr, refl, sym, ap, subst, ◌∙◌, arith, add-one, append_assoc}
use Rattle.std.proofs.Math.Dec.{leb}
use Rattle.std.proofs.lemmas.Bool.Decides.{leb_tells, nat_tests}
use Rattle.tree.specs.Tree.{Tree, node, Parts, none, part, gap, kind_of, flags_of, parts_of, part_at, part_count, parts_drop}
use Rattle.early_errors.specs.Around.{Around, settled, around_first, around_others}
use Rattle.early_errors.specs.Names.{var_names, parts_vars}
use Rattle.early_errors.specs.Early.{own_errors, errors_within, parts_errors}
use Rattle.name_tables.specs.PatternParts.{at_part}
use Rattle.early_errors.specs.Walks.{ranged, errors_at, vars_at, range_errors, range_vars}

module _ {B : Type 0} where
  pub ranged-step : (f : ℕ → List B) (i n : ℕ) → i < n → ranged f i (n - i) ≡ f i ++ ranged f (i + 1) (n - (i + 1))
  ranged-step f i n l =
      let e : n - i ≡ suc (n - (i + 1)) = omega (arith, l) in
      ap (ranged f i) e ∙ ap (λ k. f i ++ ranged f k (n - (i + 1))) (sym (add-one i))

  pub ranged-past : (f : ℕ → List B) (i n : ℕ) → n ≤ i → ranged f i (n - i) ≡ []
  ranged-past f i n l =
      let e : n - i ≡ 0 = omega (arith, l) in
      ap (ranged f i) e

  ranged-shift : (f g : ℕ → List B) → ((i : ℕ) → f (suc i) ≡ g i) → (i n : ℕ) → ranged f (suc i) n ≡ ranged g i n
  ranged-shift f g h i zero = refl
  ranged-shift f g h i (suc n) = λ j. h i j ++ ranged-shift f g h (suc i) n j

  -- what comes behind the first, where the rest is the same
  pub ranged-behind : (f g : ℕ → List B) → ((i : ℕ) → f (suc i) ≡ g (suc i)) → (i n : ℕ) → ranged f (suc i) n ≡ ranged g (suc i) n
  ranged-behind f g h i n = ranged-shift f (λ k. g (suc k)) h i n ∙ sym (ranged-shift g (λ k. g (suc k)) (λ k. refl) i n)

  split_from : (f : ℕ → List B) (n : ℕ) → ((i : ℕ) → n ≤ i → f i ≡ []) → (i m : ℕ) → ranged f i m ++ ranged f (i + m) (n - (i + m)) ≡ ranged f i (n - i)
  split_from f n h i zero =
      let e : i + 0 ≡ i = omega arith in
      ap (λ k. ranged f k (n - k)) e
  split_from f n h i (suc m) =
      let e : i + suc m ≡ suc i + m = omega arith in
      append_assoc (f i) (ranged f (suc i) m) (ranged f (i + suc m) (n - (i + suc m)))
      ∙ ap (λ k. f i ++ (ranged f (suc i) m ++ ranged f k (n - k))) e
      ∙ ap (λ x. f i ++ x) (split_from f n h (suc i) m)
      ∙ whole (leb_tells n i)
    where
      whole : ((leb n i ≡ true) × (n ≤ i)) ⊎ ((leb n i ≡ false) × (i < n)) → f i ++ ranged f (suc i) (n - suc i) ≡ ranged f i (n - i)
      whole (inl l) = (λ j. h i l.1 j ++ ranged-past f (suc i) n (omega (arith, l.1)) j) ∙ sym (ranged-past f i n l.1)
      whole (inr l) = ap (λ k. f i ++ ranged f k (n - k)) (sym (add-one i)) ∙ sym (ranged-step f i n l.1)

  pub ranged-split : (f : ℕ → List B) (m n : ℕ) → ((i : ℕ) → n ≤ i → f i ≡ []) → ranged f 0 m ++ ranged f m (n - m) ≡ ranged f 0 n
  ranged-split f m n h =
      let e : 0 + m ≡ m = omega arith in
      let d : n - 0 ≡ n = omega arith in
      ap (λ k. ranged f 0 m ++ ranged f k (n - k)) (sym e) ∙ split_from f n h 0 m ∙ ap (ranged f 0) d

pub past : (ps : Parts) (i : ℕ) → part_count ps ≤ i → part_at ps i ≡ None
past none i l = refl
past (part t ps) zero l = absurd (omega (arith, l))
past (gap ps) zero l = absurd (omega (arith, l))
past (part t ps) (suc i) l = past ps i (omega (arith, l))
past (gap ps) (suc i) l = past ps i (omega (arith, l))

-- ---- errors

pub errors-split : (y z : Around) (ps : Parts) (m n : ℕ) → n ≡ part_count ps → range_errors y z ps 0 m ++ range_errors y z ps m (n - m) ≡ range_errors y z ps 0 n
errors-split y z ps m n e = ranged-split (errors_at y z ps) m n (λ i l. ap (at_part (errors_within (cond (nat_eq i 0) y z))) (past ps i (subst (λ k. k ≤ i) e l)))

not_first : (k : ℕ) → nat_eq (suc k) 0 ≡ false
not_first k = grind (arith, nat_tests)

-- behind the first part nothing depends on what holds round that
pub errors-behind : (x y z : Around) (ps : Parts) (i n : ℕ) → range_errors x z ps (suc i) n ≡ range_errors y z ps (suc i) n
errors-behind x y z ps i n = ranged-behind (errors_at x z ps) (errors_at y z ps) (λ k. ap (λ b. at_part (errors_within (cond b x z)) (part_at ps (suc k))) (not_first k) ∙ sym (ap (λ b. at_part (errors_within (cond b y z)) (part_at ps (suc k))) (not_first k))) i n

same : (b : Bool) (z : Around) → cond b z z ≡ z
same true z = refl
same false z = refl

-- a part more in front
errors-more : (y z : Around) (t : Tree) (ps : Parts) (n : ℕ) → range_errors y z (part t ps) 1 n ≡ range_errors z z ps 0 n
errors-more y z t ps n = ranged-shift (errors_at y z (part t ps)) (errors_at z z ps) (λ k. ap (λ b. at_part (errors_within (cond b y z)) (part_at ps k)) (not_first k) ∙ ap (λ x. at_part (errors_within x) (part_at ps k)) (sym (same (nat_eq k 0) z))) 0 n

errors-gap : (y z : Around) (ps : Parts) (n : ℕ) → range_errors y z (gap ps) 1 n ≡ range_errors z z ps 0 n
errors-gap y z ps n = ranged-shift (errors_at y z (gap ps)) (errors_at z z ps) (λ k. ap (λ b. at_part (errors_within (cond b y z)) (part_at ps k)) (not_first k) ∙ ap (λ x. at_part (errors_within x) (part_at ps k)) (sym (same (nat_eq k 0) z))) 0 n

pub parts_errors-range : (y z : Around) (ps : Parts) → parts_errors y z ps ≡ range_errors y z ps 0 (part_count ps)
unfolding parts_errors
parts_errors-range y z none = refl
parts_errors-range y z (part t ps) =
    ap (λ l. errors_within y t ++ l) (parts_errors-range z z ps ∙ sym (errors-more y z t ps (part_count ps)))
    ∙ ap (range_errors y z (part t ps) 0) (sym (add-one (part_count ps)))
parts_errors-range y z (gap ps) =
    parts_errors-range z z ps ∙ sym (errors-gap y z ps (part_count ps)) ∙ ap (range_errors y z (gap ps) 0) (sym (add-one (part_count ps)))

-- where what holds at a function's body is settled
pub errors_whole : (z : Around) (t : Tree) (n : ℕ) → settled z (kind_of t) ≡ z → n ≡ part_count (parts_of t) →
    errors_within z t ≡ own_errors z t ++ range_errors (around_first z (kind_of t) (flags_of t) (parts_of t)) (around_others z (kind_of t) (flags_of t) (parts_of t)) (parts_of t) 0 n
unfolding errors_within
errors_whole z (node k w g s e ps) n still h =
    ap (λ y. own_errors y (node k w g s e ps) ++ parts_errors (around_first y k g ps) (around_others y k g ps) ps) still
    ∙ ap (λ l. own_errors z (node k w g s e ps) ++ l) (parts_errors-range (around_first z k g ps) (around_others z k g ps) ps ∙ ap (range_errors (around_first z k g ps) (around_others z k g ps) ps 0) (sym h))

-- ---- names of `var`s

pub vars-split : (ps : Parts) (m n : ℕ) → n ≡ part_count ps → range_vars ps 0 m ++ range_vars ps m (n - m) ≡ range_vars ps 0 n
vars-split ps m n e = ranged-split (vars_at ps) m n (λ i l. ap (at_part var_names) (past ps i (subst (λ k. k ≤ i) e l)))

pub parts_vars-range : (ps : Parts) → parts_vars ps ≡ range_vars ps 0 (part_count ps)
unfolding parts_vars
parts_vars-range none = refl
parts_vars-range (part t ps) =
    ap (λ l. var_names t ++ l) (parts_vars-range ps ∙ sym (ranged-shift (vars_at (part t ps)) (vars_at ps) (λ k. refl) 0 (part_count ps))) ∙ ap (range_vars (part t ps) 0) (sym (add-one (part_count ps)))
parts_vars-range (gap ps) =
    parts_vars-range ps ∙ sym (ranged-shift (vars_at (gap ps)) (vars_at ps) (λ k. refl) 0 (part_count ps)) ∙ ap (range_vars (gap ps) 0) (sym (add-one (part_count ps)))

pub vars_whole : (ps : Parts) (n : ℕ) → n ≡ part_count ps → parts_vars ps ≡ range_vars ps 0 n
vars_whole ps n e = parts_vars-range ps ∙ ap (range_vars ps 0) (sym e)

-- those of the parts from a place on
pub vars_drop : (ps : Parts) (i : ℕ) → range_vars ps i (part_count ps - i) ≡ parts_vars (parts_drop i ps)
unfolding parts_vars
vars_drop ps zero =
    let e : part_count ps - 0 ≡ part_count ps = omega arith in
    ap (range_vars ps 0) e ∙ sym (parts_vars-range ps)
vars_drop none (suc i) = ranged-past (vars_at none) (suc i) 0 (omega arith)
vars_drop (part t ps) (suc i) =
    let e : part_count ps + 1 - suc i ≡ part_count ps - i = omega arith in
    ap (range_vars (part t ps) (suc i)) e ∙ ranged-shift (vars_at (part t ps)) (vars_at ps) (λ k. refl) i (part_count ps - i) ∙ vars_drop ps i
vars_drop (gap ps) (suc i) =
    let e : part_count ps + 1 - suc i ≡ part_count ps - i = omega arith in
    ap (range_vars (gap ps) (suc i)) e ∙ ranged-shift (vars_at (gap ps)) (vars_at ps) (λ k. refl) i (part_count ps - i) ∙ vars_drop ps i
