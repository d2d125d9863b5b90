-- A table is sound exactly where it has the right shape and is judged to pass.
use Rattle.std.proofs.Common.{◌≡◌, ℕ, zero, suc, ◌+◌, ◌≤◌, Bool, true, false, cond, ◌&&◌, List, [], ◌∷◌, refl, sym, ap, subst, ◌∙◌, arith}
use Rattle.std.specs.Prelude.{Option, Some, None, map, nat_le, slice_get}
use Rattle.std.specs.Str.{bytes_eq}
use Rattle.std.proofs.lemmas.Slice.Eq.{bytes_eq-Decides}
use Rattle.std.specs.Option.{is_some}
use Rattle.std.proofs.lemmas.Bool.{and_parts, false≢true}
use Rattle.std.proofs.lemmas.Bool.Decides.{nat_tests}
use Rattle.tree.specs.declared.kind.Kind.{Kind}
use Rattle.tree.specs.Kinds.{type_name}
use Rattle.tree.specs.Tree.{Tree, kind_of}
use Rattle.language.specs.Pieces.{Role, script}
use Rattle.language.specs.Claims.{Table, table_cell, cell_bound, total_bound, row_nodes, contexts, NoGreater, Sound}
use Rattle.language.proofs.examples.Tables.{Judgement, passes, total_high, misshapen, none_at, high_at, first_of, is_given, is_low, every_cell, row_judged, rows_judged, shape_judged, judged}

abbrev pub passing : Judgement → Bool
passing passes = true
passing _ = false

abbrev inside : {X : Type 0} → X → Option X → X
inside x None = x
inside x (Some y) = y

given_some : (m : ℕ) (y : Option ℕ) → is_given (Some m) y ≡ true
given_some m None = refl
given_some m (Some b) = refl

at_most : (m b : ℕ) → nat_le m b ≡ true → m ≤ b
at_most m b h = grind (arith, nat_tests)

no_greater : (x y : Option ℕ) → is_given x y ≡ true → is_low x y ≡ true → NoGreater x y
no_greater x None h k = tt
no_greater None (Some b) h k = absurd (false≢true h)
no_greater (Some m) (Some b) h k = at_most m b k

both_pass : (x y : Judgement) → first_of x y ≡ passes → (x ≡ passes) × (y ≡ passes)
both_pass passes y h = (refl, h)
both_pass total_high y h = absurd (false≢true (ap passing h))
both_pass (misshapen r) y h = absurd (false≢true (ap passing h))
both_pass (none_at r) y h = absurd (false≢true (ap passing h))
both_pass (high_at r) y h = absurd (false≢true (ap passing h))

-- a test is true where the first branch is taken
tested : (b : Bool) (x y : Judgement) → cond b x y ≡ passes → (y ≡ passes → ⊥) → (b ≡ true) × (x ≡ passes)
tested true x y h k = (refl, h)
tested false x y h k = absurd (k h)

row_passes : (t : Table) (n : Tree) (r : ℕ) → row_judged t n r ≡ passes → (every_cell is_given t n r 0 contexts ≡ true) × (every_cell is_low t n r 0 contexts ≡ true)
row_passes t n r h =
    let given = tested (every_cell is_given t n r 0 contexts) _ (none_at r) h (λ e. false≢true (ap passing e)) in
    (given.0, (tested (every_cell is_low t n r 0 contexts) passes (high_at r) given.1 (λ e. false≢true (ap passing e))).0)

-- from every cell to each
each_cell : (f : Option ℕ → Option ℕ → Bool) (t : Table) (n : Tree) (r c : ℕ) (xs : List Role) (k : ℕ) (a : Role) (j : ℕ) →
    every_cell f t n r c xs ≡ true → slice_get xs k ≡ Some a → c + k ≡ j → f (table_cell t r j) (cell_bound t n a r) ≡ true
each_cell f t n r c [] k a j h e q = absurd (false≢true (ap is_some e))
each_cell f t n r c (x ∷ xs) zero a j h e q =
    let same : c ≡ j = omega (arith, q) in
    subst (λ b. f (table_cell t r j) (cell_bound t n b r) ≡ true) (ap (inside x) e)
    (subst (λ i. f (table_cell t r i) (cell_bound t n x r) ≡ true) same (and_parts _ _ h).0)
each_cell f t n r c (x ∷ xs) (suc k) a j h e q = each_cell f t n r (suc c) xs k a j (and_parts (f (table_cell t r c) (cell_bound t n x r)) _ h).1 e (omega (arith, q))

-- and from all rows to each
each_row : (t : Table) (ns : List Tree) (r k : ℕ) (n : Tree) (j : ℕ) → rows_judged t ns (suc r) ≡ passes → slice_get ns k ≡ Some n → r + k ≡ j → row_judged t n (suc j) ≡ passes
each_row t [] r k n j h e q = absurd (false≢true (ap is_some e))
each_row t (m ∷ ns) r zero n j h e q =
    let same : r ≡ j = omega (arith, q) in
    subst (λ b. row_judged t b (suc j) ≡ passes) (ap (inside m) e)
    (subst (λ i. row_judged t m (suc i) ≡ passes) same (both_pass (row_judged t m (suc r)) (rows_judged t ns (suc (suc r))) h).0)
each_row t (m ∷ ns) r (suc k) n j h e q = each_row t ns (suc r) k n j (both_pass (row_judged t m (suc r)) (rows_judged t ns (suc (suc r))) h).1 e (omega (arith, q))

pub sound_by : (t : Table) (n : Tree) → map (λ x. x.0) t.rows ≡ map kind_of (row_nodes n script) → judged t n ≡ passes → Sound t n
sound_by t n shape h =
    let all = both_pass (shape_judged t.rows (row_nodes n script) 1) (first_of (rows_judged t (row_nodes n script) 1) (cond (is_low (Some t.total) (total_bound t n)) passes total_high)) h in
    let later = both_pass (rows_judged t (row_nodes n script) 1) (cond (is_low (Some t.total) (total_bound t n)) passes total_high) all.1 in
    record {
      shape = shape;
      below = λ r m e c a d.
          let good = row_passes t m (suc r) (each_row t (row_nodes n script) 0 r m r later.0 e (omega arith)) in
          no_greater (table_cell t (suc r) c) (cell_bound t m a (suc r)) (each_cell is_given t m (suc r) 0 contexts c a c good.0 d (omega arith)) (each_cell is_low t m (suc r) 0 contexts c a c good.1 d (omega arith));
      total = no_greater (Some t.total) (total_bound t n) (given_some t.total (total_bound t n)) (tested (is_low (Some t.total) (total_bound t n)) passes total_high later.1 (λ e. false≢true (ap passing e))).0;
    }

was_given : (x y : Option ℕ) → NoGreater x y → is_given x y ≡ true
was_given None None h = refl
was_given None (Some b) h = absurd h
was_given (Some m) y h = given_some m y

was_low : (x y : Option ℕ) → NoGreater x y → is_low x y ≡ true
was_low None None h = refl
was_low None (Some b) h = refl
was_low (Some m) None h = refl
was_low (Some m) (Some b) h = grind (arith, nat_tests)

both_true : (a b : Bool) → a ≡ true → b ≡ true → (a && b) ≡ true
both_true a b h k = subst (λ x. (x && b) ≡ true) (sym h) k

-- from each cell to every one
all_cells : (f : Option ℕ → Option ℕ → Bool) (t : Table) (n : Tree) (r c : ℕ) (xs : List Role) →
    ((k : ℕ) (a : Role) → slice_get xs k ≡ Some a → f (table_cell t r (c + k)) (cell_bound t n a r) ≡ true) → every_cell f t n r c xs ≡ true
all_cells f t n r c [] h = refl
all_cells f t n r c (x ∷ xs) h =
    let first : c + 0 ≡ c = omega arith in
    both_true (f (table_cell t r c) (cell_bound t n x r)) (every_cell f t n r (suc c) xs)
    (subst (λ i. f (table_cell t r i) (cell_bound t n x r) ≡ true) first (h 0 x refl))
    (all_cells f t n r (suc c) xs (λ k a e. let next : c + suc k ≡ suc c + k = omega arith in subst (λ i. f (table_cell t r i) (cell_bound t n a r) ≡ true) next (h (suc k) a e)))

taken : (b : Bool) (x y : Judgement) → b ≡ true → cond b x y ≡ x
taken b x y h = subst (λ c. cond c x y ≡ x) (sym h) refl

all_rows : (t : Table) (ns : List Tree) (r : ℕ) → ((k : ℕ) (n : Tree) → slice_get ns k ≡ Some n → row_judged t n (suc (r + k)) ≡ passes) → rows_judged t ns (suc r) ≡ passes
all_rows t [] r h = refl
all_rows t (n ∷ ns) r h =
    let first : r + 0 ≡ r = omega arith in
    subst (λ x. first_of x (rows_judged t ns (suc (suc r))) ≡ passes) (sym (subst (λ i. row_judged t n (suc i) ≡ passes) first (h 0 n refl)))
    (all_rows t ns (suc r) (λ k m e. let next : r + suc k ≡ suc r + k = omega arith in subst (λ i. row_judged t m (suc i) ≡ passes) next (h (suc k) m e)))

abbrev first_kind : Kind → List Kind → Kind
first_kind d [] = d
first_kind d (k ∷ ks) = k

abbrev behind_first : List Kind → List Kind
behind_first [] = []
behind_first (k ∷ ks) = ks

abbrev is_some_kind : List Kind → Bool
is_some_kind [] = false
is_some_kind (k ∷ ks) = true

shape_passes : (xs : List (Kind × List (Option ℕ))) (ns : List Tree) (r : ℕ) → map (λ x. x.0) xs ≡ map kind_of ns → shape_judged xs ns r ≡ passes
shape_passes [] [] r h = refl
shape_passes [] (n ∷ ns) r h = absurd (false≢true (ap is_some_kind h))
shape_passes (x ∷ xs) [] r h = absurd (false≢true (sym (ap is_some_kind h)))
shape_passes (x ∷ xs) (n ∷ ns) r h =
    let same : bytes_eq (type_name x.0) (type_name (kind_of n)) ≡ true = (bytes_eq-Decides (type_name x.0) (type_name (kind_of n))).1 (ap (λ ks. type_name (first_kind x.0 ks)) h) in
    taken (bytes_eq (type_name x.0) (type_name (kind_of n))) (shape_judged xs ns (suc r)) (misshapen r) same ∙ shape_passes xs ns (suc r) (ap behind_first h)

pub passes_by : (t : Table) (n : Tree) → Sound t n → judged t n ≡ passes
passes_by t n s =
    let nodes = row_nodes n script in
    let total_low = taken (is_low (Some t.total) (total_bound t n)) passes total_high (was_low (Some t.total) (total_bound t n) s.total) in
    let row : (k : ℕ) (m : Tree) → slice_get nodes k ≡ Some m → row_judged t m (suc (0 + k)) ≡ passes =
    λ k m e.
    let zeroth : 0 + k ≡ k = omega arith in
    let given = all_cells is_given t m (suc k) 0 contexts (λ c a d. let same : 0 + c ≡ c = omega arith in subst (λ i. is_given (table_cell t (suc k) i) (cell_bound t m a (suc k)) ≡ true) (sym same) (was_given _ _ (s.below k m e c a d))) in
    let low = all_cells is_low t m (suc k) 0 contexts (λ c a d. let same : 0 + c ≡ c = omega arith in subst (λ i. is_low (table_cell t (suc k) i) (cell_bound t m a (suc k)) ≡ true) (sym same) (was_low _ _ (s.below k m e c a d))) in
    subst (λ i. row_judged t m (suc i) ≡ passes) (sym zeroth)
    (taken (every_cell is_given t m (suc k) 0 contexts) (cond (every_cell is_low t m (suc k) 0 contexts) passes (high_at (suc k))) (none_at (suc k)) given ∙ taken (every_cell is_low t m (suc k) 0 contexts) passes (high_at (suc k)) low) in
    subst (λ x. first_of x (first_of (rows_judged t nodes 1) (cond (is_low (Some t.total) (total_bound t n)) passes total_high)) ≡ passes) (sym (shape_passes t.rows nodes 1 s.shape))
    (subst (λ x. first_of x (cond (is_low (Some t.total) (total_bound t n)) passes total_high) ≡ passes) (sym (all_rows t nodes 0 row)) total_low)

-- a table that is judged otherwise isn't sound
pub unsound_by : (t : Table) (n : Tree) (x : Judgement) → judged t n ≡ x → passing x ≡ false → Sound t n → ⊥
unsound_by t n x h k s = false≢true (sym k ∙ ap passing (sym h ∙ passes_by t n s))
