-- A table has no fault exactly where it is sound.
use Rattle.std.proofs.Common.{◌≡◌, ℕ, zero, suc, ◌+◌, ◌≤◌, Bool, true, false, cond, ◌||◌, List, [], ◌∷◌, length, refl, sym, ap, subst, ◌∙◌, arith, Option, Some, None}
use Rattle.std.specs.Prelude.{map, slice_get}
use Rattle.std.proofs.lemmas.Bool.{and_parts, true≢false}
use Rattle.std.proofs.lemmas.Bool.Decides.{nat_tests}
use Rattle.tree.specs.declared.kind.Kind.{Kind}
use Rattle.tree.specs.declared.kind.Pair.{Pair}
use Rattle.tree.specs.Tree.{Tree, kind_of, SameTree}
use Rattle.language.specs.Pieces.{Role, script}
use Rattle.language.specs.Claims.{Table, table_cell, cell_bound, total_bound, row_nodes, contexts, NoGreater, Sound}
use Rattle.language.specs.declared.Language.{Language}
use Rattle.language.specs.Languages.{DerivesIn}
use Rattle.cost_certificate.specs.Types.{has_type, same_type, all_typed}
use Rattle.cost_certificate.specs.Faults.{TableFault, or_else, shape_fault, lacks, is_above, some_cell, row_fault, rows_fault, total_fault, first_fault}
use Rattle.cost_certificate.proofs.SoundBound.{below_at_least}
use Rattle.cost_certificate.proofs.KindNames.{same_by_name, same_itself}

-- Faults that are none

none_of : (x y : Option TableFault) → or_else x y ≡ None → (x ≡ None) × (y ≡ None)
none_of None y h = (refl, h)
none_of (Some x) y h = absurd (cc)

none_both : (x y : Option TableFault) → x ≡ None → y ≡ None → or_else x y ≡ None
none_both None y h k = k
none_both (Some x) y h k = absurd (cc)

cond_none : (b : Bool) (x : TableFault) (y : Option TableFault) → cond b (Some x) y ≡ None → (b ≡ false) × (y ≡ None)
cond_none true x y h = absurd (cc)
cond_none false x y h = (refl, h)

none_cond : (b : Bool) (x : TableFault) (y : Option TableFault) → b ≡ false → y ≡ None → cond b (Some x) y ≡ None
none_cond true x y h k = absurd (true≢false h)
none_cond false x y h k = k

or_false : (a b : Bool) → (a || b) ≡ false → (a ≡ false) × (b ≡ false)
or_false true b h = absurd (true≢false h)
or_false false b h = (refl, h)

false_or : (a b : Bool) → a ≡ false → b ≡ false → (a || b) ≡ false
false_or true b h k = absurd (true≢false h)
false_or false b h k = k

-- Numbers

no_greater : (x y : Option ℕ) → lacks x y ≡ false → is_above x y ≡ false → NoGreater x y
no_greater x None h k = tt
no_greater None (Some b) h k = absurd (true≢false h)
no_greater (Some m) (Some b) h k = grind (arith, nat_tests, k)

not_lacking : (x y : Option ℕ) → NoGreater x y → lacks x y ≡ false
not_lacking None None h = refl
not_lacking None (Some b) h = absurd h
not_lacking (Some m) y h = refl

not_above : (x y : Option ℕ) → NoGreater x y → is_above x y ≡ false
not_above None y h = refl
not_above (Some m) None h = refl
not_above (Some m) (Some b) h = grind (arith, nat_tests, h)

-- Cells and rows

each_cell : (f : Option ℕ → Option ℕ → Bool) (t : Table) (n : Tree) (r c : ℕ) (xs : List Role) (k : ℕ) (a : Role) (j : ℕ) →
    some_cell f t n r c xs ≡ false → slice_get xs k ≡ Some a → c + k ≡ j → f (table_cell t r j) (cell_bound t n a r) ≡ false
each_cell f t n r c [] k a j h e q = absurd (cc)
each_cell f t n r c (x ∷ xs) zero a j h e q =
    let same : c ≡ j = omega (arith, q) in
    let role : x ≡ a = cc in
    subst (λ b. f (table_cell t r j) (cell_bound t n b r) ≡ false) role
    (subst (λ i. f (table_cell t r i) (cell_bound t n x r) ≡ false) same (or_false _ _ h).0)
each_cell f t n r c (x ∷ xs) (suc k) a j h e q = each_cell f t n r (suc c) xs k a j (or_false (f (table_cell t r c) (cell_bound t n x r)) _ h).1 e (omega (arith, q))

all_cells : (f : Option ℕ → Option ℕ → Bool) (t : Table) (n : Tree) (r c : ℕ) (xs : List Role) →
    ((k : ℕ) (a : Role) → slice_get xs k ≡ Some a → f (table_cell t r (c + k)) (cell_bound t n a r) ≡ false) → some_cell f t n r c xs ≡ false
all_cells f t n r c [] h = refl
all_cells f t n r c (x ∷ xs) h =
    let first : c + 0 ≡ c = omega arith in
    false_or (f (table_cell t r c) (cell_bound t n x r)) (some_cell f t n r (suc c) xs)
    (subst (λ i. f (table_cell t r i) (cell_bound t n x r) ≡ false) first (h 0 x refl))
    (all_cells f t n r (suc c) xs (λ k a e. let next : c + suc k ≡ suc c + k = omega arith in subst (λ i. f (table_cell t r i) (cell_bound t n a r) ≡ false) next (h (suc k) a e)))

row_none : (t : Table) (n : Tree) (r : ℕ) → row_fault t n r ≡ None → (some_cell lacks t n r 0 contexts ≡ false) × (some_cell is_above t n r 0 contexts ≡ false)
row_none t n r h =
    let u = cond_none (some_cell lacks t n r 0 contexts) _ _ h in
    let v = cond_none (some_cell is_above t n r 0 contexts) _ _ u.1 in (u.0, v.0)

each_row : (t : Table) (ns : List Tree) (r k : ℕ) (n : Tree) (j : ℕ) → rows_fault t ns (suc r) ≡ None → slice_get ns k ≡ Some n → r + k ≡ j → row_fault t n (suc j) ≡ None
each_row t [] r k n j h e q = absurd (cc)
each_row t (m ∷ ns) r zero n j h e q =
    let same : r ≡ j = omega (arith, q) in
    let here : m ≡ n = cc in
    subst (λ b. row_fault t b (suc j) ≡ None) here
    (subst (λ i. row_fault t m (suc i) ≡ None) same (none_of (row_fault t m (suc r)) (rows_fault t ns (suc (suc r))) h).0)
each_row t (m ∷ ns) r (suc k) n j h e q = each_row t ns (suc r) k n j (none_of (row_fault t m (suc r)) (rows_fault t ns (suc (suc r))) h).1 e (omega (arith, q))

all_rows : (t : Table) (ns : List Tree) (r : ℕ) → ((k : ℕ) (n : Tree) → slice_get ns k ≡ Some n → row_fault t n (suc (r + k)) ≡ None) → rows_fault t ns (suc r) ≡ None
all_rows t [] r h = refl
all_rows t (n ∷ ns) r h =
    let first : r + 0 ≡ r = omega arith in
    none_both (row_fault t n (suc r)) (rows_fault t ns (suc (suc r)))
    (subst (λ i. row_fault t n (suc i) ≡ None) first (h 0 n refl))
    (all_rows t ns (suc r) (λ k m e. let next : r + suc k ≡ suc r + k = omega arith in subst (λ i. row_fault t m (suc i) ≡ None) next (h (suc k) m e)))

-- Shape

shape_on : (x : Kind × List (Option ℕ)) (xs : List (Kind × List (Option ℕ))) (k : Kind) (ks : List Kind) (r : ℕ) → has_type x.0 ≡ true → (b : Bool) → same_type x.0 k ≡ b →
    (shape_fault (map (λ y. y.0) xs) ks (suc r) ≡ None → map (λ y. y.0) xs ≡ ks) →
    cond b (shape_fault (map (λ y. y.0) xs) ks (suc r)) (Some (r, Rattle.source_text.specs.declared.fault.Reason.TheVariants.Shape)) ≡ None → x.0 ∷ map (λ y. y.0) xs ≡ k ∷ ks
shape_on x xs k ks r g true e others h = λ i. same_by_name x.0 k g e i ∷ others h i
shape_on x xs k ks r g false e others h = absurd (cc)

shape_none : (xs : List (Kind × List (Option ℕ))) (ks : List Kind) (r : ℕ) → all_typed xs ≡ true → shape_fault (map (λ x. x.0) xs) ks r ≡ None → map (λ x. x.0) xs ≡ ks
shape_none [] [] r g h = refl
shape_none [] (k ∷ ks) r g h = absurd (cc)
shape_none (x ∷ xs) [] r g h = absurd (cc)
shape_none (x ∷ xs) (k ∷ ks) r g h =
    let typed = and_parts (has_type x.0) (all_typed xs) g in
    shape_on x xs k ks r typed.0 (same_type x.0 k) refl (λ u. shape_none xs ks (suc r) typed.1 u) h

none_shape : (ks : List Kind) (r : ℕ) → shape_fault ks ks r ≡ None
none_shape [] r = refl
none_shape (k ∷ ks) r = ap (λ b. cond b (shape_fault ks ks (suc r)) (Some (r, Rattle.source_text.specs.declared.fault.Reason.TheVariants.Shape))) (same_itself k) ∙ none_shape ks (suc r)

-- Both ways

pub sound_by : (t : Table) (n : Tree) → all_typed t.rows ≡ true → first_fault t n ≡ None → Sound t n
sound_by t n g h =
    let nodes = row_nodes n script in
    let all = none_of (shape_fault (map (λ x. x.0) t.rows) (map kind_of nodes) 1) _ h in
    let later = none_of (rows_fault t nodes 1) (total_fault t n) all.1 in
    let high = cond_none (is_above (Some t.total) (total_bound t n)) _ None later.1 in
    record {
      shape = shape_none t.rows (map kind_of nodes) 1 g all.0;
      below = λ r m e c a d.
          let good = row_none t m (suc r) (each_row t nodes 0 r m r later.0 e (omega arith)) in
          no_greater (table_cell t (suc r) c) (cell_bound t m a (suc r)) (each_cell lacks t m (suc r) 0 contexts c a c good.0 d (omega arith)) (each_cell is_above t m (suc r) 0 contexts c a c good.1 d (omega arith));
      total = no_greater (Some t.total) (total_bound t n) refl high.0;
    }

pub faultless_by : (t : Table) (n : Tree) → Sound t n → first_fault t n ≡ None
faultless_by t n s =
    let nodes = row_nodes n script in
    let shape : shape_fault (map (λ x. x.0) t.rows) (map kind_of nodes) 1 ≡ None = subst (λ ks. shape_fault ks (map kind_of nodes) 1 ≡ None) (sym s.shape) (none_shape (map kind_of nodes) 1) in
    let row : (k : ℕ) (m : Tree) → slice_get nodes k ≡ Some m → row_fault t m (suc (0 + k)) ≡ None =
    λ k m e.
    let zeroth : 0 + k ≡ k = omega arith in
    let given = all_cells lacks t m (suc k) 0 contexts (λ c a d. let same : 0 + c ≡ c = omega arith in subst (λ i. lacks (table_cell t (suc k) i) (cell_bound t m a (suc k)) ≡ false) (sym same) (not_lacking _ _ (s.below k m e c a d))) in
    let low = all_cells is_above t m (suc k) 0 contexts (λ c a d. let same : 0 + c ≡ c = omega arith in subst (λ i. is_above (table_cell t (suc k) i) (cell_bound t m a (suc k)) ≡ false) (sym same) (not_above _ _ (s.below k m e c a d))) in
    subst (λ i. row_fault t m (suc i) ≡ None) (sym zeroth) (none_cond _ _ _ given (none_cond _ _ None low refl)) in
    none_both _ _ shape (none_both _ _ (all_rows t nodes 0 row) (none_cond (is_above (Some t.total) (total_bound t n)) (0, Rattle.source_text.specs.declared.fault.Reason.TheVariants.Total) None (not_above (Some t.total) (total_bound t n) s.total) refl))

-- whatever the types of the rows, the total of a table without fault is no greater than the pairs of any text with the same tree
pub faultless_bound : (t : Table) (n : Tree) → first_fault t n ≡ None → (language : Language) (text : List ℕ) (m : Tree) (P : List Pair) → SameTree m n → DerivesIn language text m P → t.total ≤ length P
faultless_bound t n h =
    let nodes = row_nodes n script in
    let all = none_of (shape_fault (map (λ x. x.0) t.rows) (map kind_of nodes) 1) _ h in
    let later = none_of (rows_fault t nodes 1) (total_fault t n) all.1 in
    let high = cond_none (is_above (Some t.total) (total_bound t n)) _ None later.1 in
    below_at_least t n
    (λ r m e c a d.
    let good = row_none t m (suc r) (each_row t nodes 0 r m r later.0 e (omega arith)) in
    no_greater (table_cell t (suc r) c) (cell_bound t m a (suc r)) (each_cell lacks t m (suc r) 0 contexts c a c good.0 d (omega arith)) (each_cell is_above t m (suc r) 0 contexts c a c good.1 d (omega arith)))
    (no_greater (Some t.total) (total_bound t n) refl high.0)
