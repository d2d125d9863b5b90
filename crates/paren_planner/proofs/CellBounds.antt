-- In a plan's table each cell equals its bound, and so does the total.
use Rattle.std.proofs.Common.{◌≡◌, ℕ, zero, suc, ◌+◌, ◌≤◌, Bool, true, false, cond, nat_le, List, [], ◌∷◌, drop, Option, Some, None, refl, sym, ap, ap₂, ◌∙◌, subst, append-nil, arith}
use Rattle.std.specs.Prelude.{◌&&◌, ◌||◌, map, slice_get}
use Rattle.std.proofs.lemmas.Bool.{and_parts, and_from, false≢true}
use Rattle.std.proofs.lemmas.Bool.Decides.{nat_tests}
use Rattle.tree.specs.Tree.{Tree, node, Parts, none, part, gap, kind_of, parts_of}
use Rattle.tree.specs.Uses.{implies}
use Rattle.language.specs.declared.Rank.{Rank}
use Rattle.language.specs.declared.Rank.TheVariants.{Expression, Member}
use Rattle.language.specs.declared.Start.{Start}
use Rattle.language.specs.declared.Start.TheVariants.{Any, NoBrace, Statement}
use Rattle.language.specs.Vocabulary.{precedence, takes}
use Rattle.language.specs.Pieces.{Role, expr, script, PieceOf, Slot}
use Rattle.language.specs.Grammar.{ways}
use Rattle.language.specs.RowPositions.{first_roles, widest, rows, parts_rows}
use Rattle.language.specs.Layout.{some_way}
use Rattle.language.specs.Cost.{add_cost, lesser, if_any, least, parts_least, cell, cell_position}
use Rattle.language.specs.Claims.{table_cell, cell_number, cell_at, bound_at, parts_bound, cell_bound, total_bound, row_nodes, parts_row_nodes, contexts}
use Rattle.spelling_table.specs.declared.outline.Outline.{Outline}
use Rattle.spelling_table.specs.Outlines.{opens_at}
use Rattle.spelling_table.specs.Requirements.{fits_outline}
use Rattle.spellings.specs.Spelled.{settled_roles, Verdict}
use Rattle.spellings.proofs.Wherever.{found_roles, AnySpelling, any_spelling}
use Rattle.spellings.proofs.Slots.{is_plain, is_lawful, is_wide, all_pass, parts_plain, parts_lawful, parts_wide}
use Rattle.cost_table.specs.declared.table.Row.{Row}
use Rattle.cost_table.specs.Rows.{row_of, shown, celled, table_rows, parts_table}
use Rattle.cost_table.specs.Tables.{table_of, MeetsBounds}
use Rattle.cost_table.proofs.Known.{implies_true, takes_all, takes_tight, least_expr}
use Rattle.cost_table.proofs.NodeRowNumbers.{way_when}
use Rattle.paren_planner.proofs.WrappedRows.{table_at, rows_at}
use Rattle.paren_planner.proofs.Turns.{HasRows, front_rows, rows_behind, table-length}
use Rattle.paren_planner.proofs.Bounds.{rows_inner}
use Rattle.paren_planner.proofs.CellRows.{row_shown, script_shown}
use Rattle.cost_table.proofs.RowNodes.{wide_itself, wide_start, split_at, nodes-length}
use Rattle.paren_planner.proofs.Totals.{cell_known}

-- The direct cost at a position, by the symbol alone and by all

three : (us vs ws : List (List (PieceOf Role))) (x : Option ℕ) → (some_way us && some_way vs) ≡ some_way ws → if_any us (if_any vs x) ≡ if_any ws x
unfolding if_any
three [] vs [] x h = refl
three [] vs (w ∷ ws) x h = absurd (cc)
three (u ∷ us) [] [] x h = refl
three (u ∷ us) [] (w ∷ ws) x h = absurd (cc)
three (u ∷ us) (v ∷ vs) [] x h = absurd (cc)
three (u ∷ us) (v ∷ vs) (w ∷ ws) x h = refl

abbrev fits_found : Role → Option (Outline × List Slot) → Bool
fits_found a None = false
fits_found a (Some x) = fits_outline a x.0

way_found : (b : Role) (n : Tree) (o : Option (Outline × List Slot)) → Verdict (ways b n) (found_roles b o) → some_way (ways b n) ≡ fits_found b o
way_found b n None v = ap some_way v
way_found b n (Some x) v = way_when (ways b n) (found_roles b (Some x)) v (fits_outline b x.0) (settled_roles b x.1) refl

fit_both : (t u v r : Bool) → u ≡ true → (t ≡ true → v ≡ true) → ((t && u) && (v && r)) ≡ (t && r)
fit_both true true v r e h = ap (λ w. w && r) (h refl)
fit_both true false v r e h = absurd (false≢true e)
fit_both false u v r e h = refl

tight_in : (y : Rank) (i : Bool) (f : Start) → is_plain (expr y i f) ≡ true → nat_le 21 (precedence y) ≡ true → i ≡ true
tight_in y true f h e = refl
tight_in y false f h e = of (precedence y) h e
  where
    of : (m : ℕ) → (nat_le m 18 || false) ≡ true → nat_le 21 m ≡ true → false ≡ true
    of m u v = absurd (grind (arith, nat_tests))

fits_three : (y : Rank) (i : Bool) (f : Start) (o : Option (Outline × List Slot)) → is_plain (expr y i f) ≡ true →
    (fits_found (expr y true Any) o && fits_found (cell_position (expr y i f)) o) ≡ fits_found (expr y i f) o
fits_three y i f None h = refl
fits_three y i f (Some x) h = of (nat_le 21 (precedence y)) refl
  where
    whole : (implies x.0.needs_in true && opens_at Any x.0.opens) ≡ true
    whole = and_from _ _ (implies_true x.0.needs_in) refl

    of : (b : Bool) → nat_le 21 (precedence y) ≡ b →
        ((takes y x.0.rank && (implies x.0.needs_in true && opens_at Any x.0.opens)) && fits_outline (cond b (expr Member true f) (expr Expression i f)) x.0) ≡ (takes y x.0.rank && (implies x.0.needs_in i && opens_at f x.0.opens))
    of true e =
        fit_both (takes y x.0.rank) (implies x.0.needs_in true && opens_at Any x.0.opens) (takes Member x.0.rank) (implies x.0.needs_in true && opens_at f x.0.opens) whole (takes_tight y x.0.rank e)
        ∙ ap (λ j. takes y x.0.rank && (implies x.0.needs_in j && opens_at f x.0.opens)) (sym (tight_in y i f h e))
    of false e =
        fit_both (takes y x.0.rank) (implies x.0.needs_in true && opens_at Any x.0.opens) (takes Expression x.0.rank) (implies x.0.needs_in i && opens_at f x.0.opens) whole (λ t. takes_all x.0.rank)

direct_bound : (n : Tree) (y : Rank) (i : Bool) (f : Start) → is_plain (expr y i f) ≡ true →
    if_any (ways (expr y true Any) n) (cell n (cell_position (expr y i f))) ≡ if_any (ways (expr y i f) n) (parts_least (parts_of n) (first_roles (ways (cell_position (expr y i f)) n)))
unfolding cell
direct_bound n y i f h =
    let s : AnySpelling (expr y i f) n = any_spelling (expr y i f) n in
    three (ways (expr y true Any) n) (ways (cell_position (expr y i f)) n) (ways (expr y i f) n) _
    ((λ j. way_found (expr y true Any) n s.found (s.known y true Any) j && way_found (cell_position (expr y i f)) n s.found (cell_known n y i f s) j)
    ∙ fits_three y i f s.found h ∙ sym (way_found (expr y i f) n s.found (s.known y i f)))

-- Cells of the table

row_at : (T : List Row) (k : ℕ) (x : Row) (xs : List Row) → drop k T ≡ x ∷ xs → slice_get (map shown T) k ≡ Some (shown x)
row_at [] zero x xs h = absurd (cc)
row_at [] (suc k) x xs h = absurd (cc)
row_at (y ∷ ys) zero x xs h = let e : y ≡ x = cc in ap (λ u. Some (shown u)) e
row_at (y ∷ ys) (suc k) x xs h = row_at ys k x xs h

-- an expression's row stands first
own_row_at : (T : List Row) (k : ℕ) (n : Tree) (y : Rank) (i : Bool) (f : Start) → HasRows T k (table_rows n (expr y i f)) → rows n (expr y i f) ≤ 16777216 → slice_get (map shown T) k ≡ Some (celled n)
unfolding table_rows
own_row_at T k (node j w g s e ps) y i f h l =
    row_at T k (row_of (node j w g s e ps)) _ h.stand
    ∙ ap (λ u. Some u) (row_shown (node j w g s e ps) (let r = rows_inner (node j w g s e ps) y i f in omega (arith, r, l)))

celled_at : (n : Tree) (y : Rank) (i : Bool) (f : Start) → is_lawful (expr y i f) ≡ true → cell_at (Some (celled n)) (cell_number (cell_position (expr y i f))) ≡ cell n (cell_position (expr y i f))
unfolding Rattle.language.specs.Cost.cells
celled_at n y i f h = of (nat_le 21 (precedence y)) i f h
  where
    of : (b i : Bool) (f : Start) → is_lawful (expr y i f) ≡ true → cell_at (Some (celled n)) (cell_number (cond b (expr Member true f) (expr Expression i f))) ≡ cell n (cond b (expr Member true f) (expr Expression i f))
    of true i Any h = refl
    of true i NoBrace h = refl
    of true i Statement h = refl
    of false true Any h = refl
    of false true NoBrace h = refl
    of false true Statement h = refl
    of false false Any h = refl
    of false false NoBrace h = refl
    of false false Statement h = absurd (false≢true h)

-- Bounds

if_any_same : (xs : List (List (PieceOf Role))) (x y : Option ℕ) → (some_way xs ≡ true → x ≡ y) → if_any xs x ≡ if_any xs y
unfolding if_any
if_any_same [] x y h = refl
if_any_same (z ∷ zs) x y h = h refl

abbrev Known : List Row → ℕ → Tree → Role → ℕ → Type 0
Known T c n a k =
    HasRows T k (parts_table (parts_of n) (first_roles (ways a n))) → parts_rows (parts_of n) (first_roles (ways a n)) ≤ 16777216 →
    parts_bound (table_of T c) (parts_of n) (first_roles (ways a n)) (suc k) ≡ parts_least (parts_of n) (first_roles (ways a n))

-- what stands below a node at its widest position stands below it where it is spelled
inside_bound : (T : List Row) (c : ℕ) (n : Tree) (a : Role) (k : ℕ) → HasRows T k (parts_table (parts_of n) (first_roles (ways (widest a) n))) → parts_rows (parts_of n) (first_roles (ways (widest a) n)) ≤ 16777216 → Known T c n a k →
    if_any (ways a n) (parts_bound (table_of T c) (parts_of n) (first_roles (ways a n)) (suc k)) ≡ if_any (ways a n) (parts_least (parts_of n) (first_roles (ways a n)))
inside_bound T c n a k h l known =
    if_any_same (ways a n) _ _ (λ v. known (subst (HasRows T k) (sym (table_at a n (parts_of n) v)) h) (subst (λ u. u ≤ 16777216) (sym (rows_at a n (parts_of n) v)) l))

expression_bound : (T : List Row) (c : ℕ) (n : Tree) (y : Rank) (i : Bool) (f : Start) (k : ℕ) → is_plain (expr y i f) ≡ true → is_lawful (expr y i f) ≡ true →
    HasRows T k (table_rows n (expr y i f)) → rows n (expr y i f) ≤ 16777216 → bound_at (table_of T c) n (expr y i f) (suc k) ≡ least n (expr y i f)
unfolding bound_at Rattle.language.specs.Cost.cells
expression_bound T c (node j w g s e ps) y i f k p l h m =
    let n = node j w g s e ps in
    let found : slice_get (map shown T) k ≡ Some (celled n) = own_row_at T k n y i f h m in
    (λ q. lesser (if_any (ways (expr y true Any) n) (cell_at (found q) (cell_number (cell_position (expr y i f))))) (add_cost (Some 1) (cell_at (found q) 0)))
    ∙ ap (λ u. lesser (if_any (ways (expr y true Any) n) u) (add_cost (Some 1) (cell n (expr Expression true Any)))) (celled_at n y i f l)
    ∙ ap (λ u. lesser u (add_cost (Some 1) (cell n (expr Expression true Any)))) (direct_bound n y i f p)
    ∙ sym (least_expr n y i f)

mutual
  unfolding bound_at parts_bound least parts_least table_rows parts_table rows parts_rows

  node_bound : (T : List Row) (c : ℕ) (n : Tree) (a : Role) (k : ℕ) → is_plain a ≡ true → is_lawful a ≡ true → HasRows T k (table_rows n a) → rows n a ≤ 16777216 → bound_at (table_of T c) n a (suc k) ≡ least n a
  node_bound T c (node j w g s e ps) (expr y i f) k p l h m = expression_bound T c (node j w g s e ps) y i f k p l h m
  node_bound T c (node j w g s e ps) a k p l h m =
      inside_bound T c (node j w g s e ps) a k h (omega (arith, m))
      (λ u v. parts_bound_known T c ps (first_roles (ways a (node j w g s e ps))) k (parts_plain a (node j w g s e ps)) (parts_lawful a (node j w g s e ps) l) u v)

  parts_bound_known : (T : List Row) (c : ℕ) (ps : Parts) (xs : List Role) (k : ℕ) → all_pass is_plain xs ≡ true → all_pass is_lawful xs ≡ true → HasRows T k (parts_table ps xs) → parts_rows ps xs ≤ 16777216 →
      parts_bound (table_of T c) ps xs (suc k) ≡ parts_least ps xs
  parts_bound_known T c none xs k p l h m = refl
  parts_bound_known T c (gap ps) xs k p l h m = parts_bound_known T c ps xs k p l h m
  parts_bound_known T c (part n ps) [] k p l h m = refl
  parts_bound_known T c (part n ps) (a ∷ xs) k p l h m =
      let more : suc k + rows n a ≡ suc (k + rows n a) = omega arith in
      ap₂ add_cost
      (node_bound T c n a k (and_parts _ _ p).0 (and_parts _ _ l).0 (front_rows T k (table_rows n a) (parts_table ps xs) h) (omega (arith, m)))
      (ap (parts_bound (table_of T c) ps xs) more
      ∙ parts_bound_known T c ps xs (k + rows n a) (and_parts _ _ p).1 (and_parts _ _ l).1 (rows_behind T k (k + rows n a) (table_rows n a) (parts_table ps xs) (ap (λ u. k + u) (sym (table-length n a))) h) (omega (arith, m)))

-- The row of each node

record Standing (T : List Row) (k : ℕ) (m : Tree) : Type 0 where
  stands : HasRows T k (table_rows m (expr Expression true Any))
  few : rows m (expr Expression true Any) ≤ 16777216

same-table : (n : Tree) (y : Rank) (i : Bool) (f : Start) → table_rows n (expr y i f) ≡ table_rows n (expr Expression true Any)
unfolding table_rows
same-table (node j w g s e ps) y i f = refl

same-rows : (n : Tree) (y : Rank) (i : Bool) (f : Start) → rows n (expr y i f) ≡ rows n (expr Expression true Any)
unfolding rows
same-rows (node j w g s e ps) y i f = refl

first_is : (T : List Row) (k : ℕ) (n m : Tree) (y : Rank) (i : Bool) (f : Start) → HasRows T k (table_rows n (expr y i f)) → rows n (expr y i f) ≤ 16777216 → Some n ≡ Some m → Standing T (k + 0) m
first_is T k n m y i f h l e =
    let same : n ≡ m = cc in
    let at : k ≡ k + 0 = omega arith in
    let s : Standing T k n = record { stands = subst (HasRows T k) (same-table n y i f) h; few = subst (λ u. u ≤ 16777216) (same-rows n y i f) l } in
    subst (λ v. Standing T v m) at (subst (Standing T k) same s)

behind_first : (T : List Row) (k : ℕ) (x : Row) (xs : List Row) → HasRows T k (x ∷ xs) → HasRows T (suc k) xs
behind_first T k x xs h = rows_behind T k (suc k) (x ∷ []) xs (let e : suc k ≡ k + 1 = omega arith in e) h

mutual
  unfolding row_nodes rows parts_rows table_rows parts_table

  node_stands : (T : List Row) (n : Tree) (a : Role) (k r : ℕ) (m : Tree) → is_wide a ≡ true → HasRows T k (table_rows n a) → rows n a ≤ 16777216 → slice_get (row_nodes n a) r ≡ Some m → Standing T (k + r) m
  node_stands T (node j w g s e ps) (expr y i f) k zero m h t l q = first_is T k (node j w g s e ps) m y i f t l q
  node_stands T (node j w g s e ps) (expr y i f) k (suc r) m h t l q =
      let more : suc k + r ≡ k + suc r = omega arith in
      let xs = first_roles (ways (expr Expression true Any) (node j w g s e ps)) in
      subst (λ v. Standing T v m) more
      (parts_stand T ps xs (suc k) r m (parts_wide (expr Expression true Any) (node j w g s e ps) refl) (behind_first T k (row_of (node j w g s e ps)) (parts_table ps xs) t) (omega (arith, l)) q)
  node_stands T (node j w g s e ps) a k r m h t l q =
      let b = sym (wide_itself a h refl) in
      let xs = first_roles (ways (widest a) (node j w g s e ps)) in
      parts_stand T ps xs k r m (parts_wide (widest a) (node j w g s e ps) (wide_start a)) t (omega (arith, l)) (subst (λ v. slice_get (parts_row_nodes ps (first_roles (ways v (node j w g s e ps)))) r ≡ Some m) b q)

  parts_stand : (T : List Row) (ps : Parts) (xs : List Role) (k r : ℕ) (m : Tree) → all_pass is_wide xs ≡ true → HasRows T k (parts_table ps xs) → parts_rows ps xs ≤ 16777216 → slice_get (parts_row_nodes ps xs) r ≡ Some m → Standing T (k + r) m
  parts_stand T none xs k r m h t l q = absurd (cc)
  parts_stand T (gap ps) xs k r m h t l q = parts_stand T ps xs k r m h t l q
  parts_stand T (part n ps) [] k r m h t l q = absurd (cc)
  parts_stand T (part n ps) (a ∷ xs) k r m h t l q =
      split_at (row_nodes n a) (parts_row_nodes ps xs) r m (Standing T (k + r) m) q
      (λ i. node_stands T n a k r m (and_parts _ _ h).0 (front_rows T k (table_rows n a) (parts_table ps xs) t) (omega (arith, l)) i)
      (λ p e i.
      let z : k + rows n a + p ≡ k + r = (let w = nodes-length n a (and_parts _ _ h).0 in omega (arith, w, e)) in
      subst (λ v. Standing T v m) z
      (parts_stand T ps xs (k + rows n a) p m (and_parts _ _ h).1 (rows_behind T k (k + rows n a) (table_rows n a) (parts_table ps xs) (ap (λ u. k + u) (sym (table-length n a))) t) (omega (arith, l)) i))

-- The eight cells

record IsContext (a : Role) : Type 0 where
  plain : is_plain a ≡ true
  lawful : is_lawful a ≡ true
  whole : widest a ≡ expr Expression true Any

data AllContexts : List Role → Type 0 where
  over : AllContexts []
  and_context : {a : Role} {xs : List Role} → IsContext a → AllContexts xs → AllContexts (a ∷ xs)

contexts_are : AllContexts contexts
contexts_are =
    and_context (record { plain = refl; lawful = refl; whole = refl }) (and_context (record { plain = refl; lawful = refl; whole = refl })
    (and_context (record { plain = refl; lawful = refl; whole = refl }) (and_context (record { plain = refl; lawful = refl; whole = refl })
    (and_context (record { plain = refl; lawful = refl; whole = refl }) (and_context (record { plain = refl; lawful = refl; whole = refl })
    (and_context (record { plain = refl; lawful = refl; whole = refl }) (and_context (record { plain = refl; lawful = refl; whole = refl }) over)))))))

context_at : (xs : List Role) (c : ℕ) (a : Role) → AllContexts xs → slice_get xs c ≡ Some a → IsContext a
context_at _ c a over h = absurd (cc)
context_at _ zero a (and_context {a = b} x r) h = let same : b ≡ a = cc in subst IsContext same x
context_at _ (suc c) a (and_context {xs = xs} x r) h = context_at xs c a r h

celled_by_number : (m : Tree) (c : ℕ) (a : Role) → slice_get contexts c ≡ Some a → cell_at (Some (celled m)) c ≡ cell m a
unfolding Rattle.language.specs.Cost.cells
celled_by_number m zero a h = ap (cell m) (cc)
celled_by_number m (suc zero) a h = ap (cell m) (cc)
celled_by_number m (suc (suc zero)) a h = ap (cell m) (cc)
celled_by_number m (suc (suc (suc zero))) a h = ap (cell m) (cc)
celled_by_number m (suc (suc (suc (suc zero)))) a h = ap (cell m) (cc)
celled_by_number m (suc (suc (suc (suc (suc zero))))) a h = ap (cell m) (cc)
celled_by_number m (suc (suc (suc (suc (suc (suc zero)))))) a h = ap (cell m) (cc)
celled_by_number m (suc (suc (suc (suc (suc (suc (suc zero))))))) a h = ap (cell m) (cc)
celled_by_number m (suc (suc (suc (suc (suc (suc (suc (suc c)))))))) a h = absurd (cc)

row_cell : (T : List Row) (c r : ℕ) (m : Tree) (d : ℕ) (a : Role) → Standing T r m → slice_get contexts d ≡ Some a → table_cell (table_of T c) (suc r) d ≡ cell m a
row_cell T c r m d a s h = ap (λ u. cell_at u d) (own_row_at T r m Expression true Any s.stands s.few) ∙ celled_by_number m d a h

inner_rows : (T : List Row) (r : ℕ) (m : Tree) → HasRows T r (table_rows m (expr Expression true Any)) → HasRows T (suc r) (parts_table (parts_of m) (first_roles (ways (expr Expression true Any) m)))
unfolding table_rows
inner_rows T r (node j w g s e ps) h = behind_first T r (row_of (node j w g s e ps)) _ h

row_bound : (T : List Row) (c r : ℕ) (m : Tree) (a : Role) → Standing T r m → IsContext a → cell m a ≡ cell_bound (table_of T c) m a (suc r)
unfolding cell cell_bound
row_bound T c r m a s x =
    let few : parts_rows (parts_of m) (first_roles (ways (expr Expression true Any) m)) ≤ 16777216 = (let e = rows_inner m Expression true Any in let l = s.few in omega (arith, e, l)) in
    sym (inside_bound T c m a (suc r)
    (subst (λ b. HasRows T (suc r) (parts_table (parts_of m) (first_roles (ways b m)))) (sym x.whole) (inner_rows T r m s.stands))
    (subst (λ b. parts_rows (parts_of m) (first_roles (ways b m)) ≤ 16777216) (sym x.whole) few)
    (λ u v. parts_bound_known T c (parts_of m) (first_roles (ways a m)) (suc r) (parts_plain a m) (parts_lawful a m x.lawful) u v))

firsts : (xs : List Tree) → map (λ x. x.0) (map celled xs) ≡ map kind_of xs
firsts [] = refl
firsts (n ∷ ns) = ap (λ u. kind_of n ∷ u) (firsts ns)

shapes : (T : List Row) (n : Tree) → T ≡ table_rows n script → rows n script ≤ 16777216 → map (λ x. x.0) (map shown T) ≡ map kind_of (row_nodes n script)
shapes T n e l = ap (λ u. map (λ x. x.0) (map shown u)) e ∙ ap (map (λ x. x.0)) (script_shown n l) ∙ firsts (row_nodes n script)

pub plan_bounds : (T : List Row) (c : ℕ) (n : Tree) → T ≡ table_rows n script → rows n script ≤ 16777216 → Some c ≡ least n script → MeetsBounds (table_of T c) n
unfolding total_bound
plan_bounds T c n e l t = record {
  shape = shapes T n e l;
  cells = λ r m h d a i. let s = node_stands T n script 0 r m refl start l h in let z : 0 + r ≡ r = omega arith in let q : Standing T r m = subst (λ v. Standing T v m) z s in
      row_cell T c r m d a q i ∙ row_bound T c r m a q (context_at contexts d a contexts_are i);
  total = t ∙ sym (node_bound T c n script 0 refl refl start l);
}
  where
    start : HasRows T 0 (table_rows n script)
    start = record { rest = []; stand = e ∙ sym (append-nil (table_rows n script)) }
