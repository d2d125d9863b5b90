-- Rows and flags of a node, by those of its parts, whatever its own symbol, In and start.
use Rattle.std.proofs.Common.{◌≡◌, ℕ, zero, suc, ◌+◌, ◌<◌, Bool, true, false, cond, nat_eq, List, [], ◌∷◌, ◌++◌, length, get_or, Option, Some, None, refl, sym, ap, ap₂, ◌∙◌, subst, append_assoc, arith}
use Rattle.std.specs.Prelude.{◌||◌}
use Rattle.std.proofs.lemmas.Bool.{false≢true}
use Rattle.std.proofs.lemmas.Bool.Decides.{nat_tests}
use Rattle.std.proofs.lemmas.List.{length-replicate, length-append}
use Rattle.tree.specs.Tree.{Tree, node, Parts, none, part, gap}
use Rattle.language.specs.declared.Rank.TheVariants.{Expression}
use Rattle.language.specs.declared.Start.TheVariants.{Any}
use Rattle.language.specs.Pieces.{Role, expr, chain_part, pattern, PieceOf, Slot, fixed, left, lead, tail, callee, lead_chain, lead_pattern}
use Rattle.language.specs.Grammar.{ways, own_rank, own_in, own_start}
use Rattle.language.specs.RowPositions.{first_roles, widest, has_row, rows, parts_rows}
use Rattle.language.specs.Layout.{some_way, wants_pair, inside, wrapped_rows, parts_wrapped, has_number}
use Rattle.spelling_table.specs.declared.outline.Outline.{Outline}
use Rattle.spelling_table.specs.Requirements.{fits_outline}
use Rattle.spellings.specs.Spelled.{settled_roles, Verdict}
use Rattle.spellings.specs.Wherever.{with_own}
use Rattle.spellings.proofs.Wherever.{found_roles, AnySpelling, any_spelling}
use Rattle.cost_table.specs.Weighed.{settled_at}
use Rattle.cost_table.specs.Rows.{table_rows, parts_table}
use Rattle.paren_planner.specs.Wrapped.{own_flag, unwrapped, flags, parts_flags}
use Rattle.wrap_flags.specs.Flags.{is_flagged}
use Rattle.spellings.proofs.SlotSteps.{own_again}
use Rattle.cost_table.proofs.Known.{fits_widest}

-- The rows of a part don't depend on its node's own symbol, In and start.

pub settled-rows : (n : Tree) (b c : Role) (s : Slot) → rows n (settled_at b s) ≡ rows n (settled_at c s)
unfolding rows
settled-rows (node k w g s e ps) b c (fixed r) = refl
settled-rows (node k w g s e ps) b c (left y) = refl
settled-rows (node k w g s e ps) b c (lead y) = refl
settled-rows (node k w g s e ps) b c (tail y x) = refl
settled-rows (node k w g s e ps) b c callee = refl
settled-rows (node k w g s e ps) b c lead_chain = refl
settled-rows (node k w g s e ps) b c lead_pattern = refl

pub parts-rows : (ps : Parts) (b c : Role) (xs : List Slot) → parts_rows ps (settled_roles b xs) ≡ parts_rows ps (settled_roles c xs)
unfolding parts_rows
parts-rows none b c xs = refl
parts-rows (gap ps) b c xs = parts-rows ps b c xs
parts-rows (part n ps) b c [] = refl
parts-rows (part n ps) b c (s ∷ xs) = ap₂ (λ u v. u + v) (settled-rows n b c s) (parts-rows ps b c xs)

settled-table : (n : Tree) (b c : Role) (s : Slot) → table_rows n (settled_at b s) ≡ table_rows n (settled_at c s)
unfolding table_rows
settled-table (node k w g s e ps) b c (fixed r) = refl
settled-table (node k w g s e ps) b c (left y) = refl
settled-table (node k w g s e ps) b c (lead y) = refl
settled-table (node k w g s e ps) b c (tail y x) = refl
settled-table (node k w g s e ps) b c callee = refl
settled-table (node k w g s e ps) b c lead_chain = refl
settled-table (node k w g s e ps) b c lead_pattern = refl

pub parts-table : (ps : Parts) (b c : Role) (xs : List Slot) → parts_table ps (settled_roles b xs) ≡ parts_table ps (settled_roles c xs)
unfolding parts_table
parts-table none b c xs = refl
parts-table (gap ps) b c xs = parts-table ps b c xs
parts-table (part n ps) b c [] = refl
parts-table (part n ps) b c (s ∷ xs) = ap₂ (λ u v. u ++ v) (settled-table n b c s) (parts-table ps b c xs)

-- The slots of a node that is spelled

pub record SlotsOf (a : Role) (n : Tree) : Type 0 where
  pub slots : List Slot
  pub here : first_roles (ways a n) ≡ settled_roles a slots
  pub widely : first_roles (ways (widest a) n) ≡ settled_roles (widest a) slots

pub widest_own : (a : Role) → with_own Expression true Any a ≡ widest a
widest_own (expr y i f) = refl
widest_own (chain_part f) = refl
widest_own (pattern b f) = refl
widest_own _ = refl

pub slots_of : (a : Role) (n : Tree) → some_way (ways a n) ≡ true → SlotsOf a n
slots_of a n h = of s.found (subst (λ b. Verdict (ways b n) (found_roles b s.found)) (own_again a) (s.known (own_rank a) (own_in a) (own_start a))) (subst (λ b. Verdict (ways b n) (found_roles b s.found)) (widest_own a) (s.known Expression true Any))
  where
    s : AnySpelling a n
    s = any_spelling a n

    when : (x : Outline × List Slot) (v : Bool) → fits_outline a x.0 ≡ v → Verdict (ways a n) (cond v (Some (settled_roles a x.1)) None) → Verdict (ways (widest a) n) (cond true (Some (settled_roles (widest a) x.1)) None) → SlotsOf a n
    when x true e k m = record { slots = x.1; here = k.1; widely = m.1 }
    when x false e k m = absurd (false≢true (sym (ap some_way k) ∙ h))

    of : (o : Option (Outline × List Slot)) → Verdict (ways a n) (found_roles a o) → Verdict (ways (widest a) n) (found_roles (widest a) o) → SlotsOf a n
    of None k m = absurd (false≢true (sym (ap some_way k) ∙ h))
    of (Some x) k m = when x (fits_outline a x.0) refl k (subst (λ b. Verdict (ways (widest a) n) (cond b (Some (settled_roles (widest a) x.1)) None)) (fits_widest a x.0) m)

-- as many rows as at the widest position
pub rows_at : (a : Role) (n : Tree) (ps : Parts) → some_way (ways a n) ≡ true → parts_rows ps (first_roles (ways a n)) ≡ parts_rows ps (first_roles (ways (widest a) n))
rows_at a n ps h = let s : SlotsOf a n = slots_of a n h in ap (parts_rows ps) s.here ∙ parts-rows ps a (widest a) s.slots ∙ ap (parts_rows ps) (sym s.widely)

pub table_at : (a : Role) (n : Tree) (ps : Parts) → some_way (ways a n) ≡ true → parts_table ps (first_roles (ways a n)) ≡ parts_table ps (first_roles (ways (widest a) n))
table_at a n ps h = let s : SlotsOf a n = slots_of a n h in ap (parts_table ps) s.here ∙ parts-table ps a (widest a) s.slots ∙ ap (parts_table ps) (sym s.widely)

pub rows-empty : (ps : Parts) → parts_rows ps [] ≡ 0
unfolding parts_rows
rows-empty none = refl
rows-empty (gap ps) = rows-empty ps
rows-empty (part n ps) = refl

-- Flags

own-flag-length : (a : Role) (b : Bool) → length (own_flag a b) ≡ has_row a
own-flag-length (expr y i f) b = refl
own-flag-length _ b = refl

pub widest-inside : (n : Tree) (a : Role) → widest (inside (wants_pair n a) a) ≡ widest a
widest-inside n (expr y i f) = of (wants_pair n (expr y i f))
  where
    of : (b : Bool) → widest (cond b (expr Expression true Any) (expr y i f)) ≡ expr Expression true Any
    of true = refl
    of false = refl
widest-inside n _ = refl

flags-step : (n : Tree) (a c : Role) (ps : Parts) → widest c ≡ widest a → length (parts_flags ps (first_roles (ways c n))) ≡ parts_rows ps (first_roles (ways c n)) → (v : Bool) → some_way (ways c n) ≡ v →
    length (cond v (parts_flags ps (first_roles (ways c n))) (unwrapped (parts_rows ps (first_roles (ways (widest a) n))))) ≡ parts_rows ps (first_roles (ways (widest a) n))
flags-step n a c ps e h true k = h ∙ rows_at c n ps k ∙ ap (λ b. parts_rows ps (first_roles (ways b n))) e
flags-step n a c ps e h false k = length-replicate _ false

mutual
  unfolding flags parts_flags rows parts_rows

  pub flags-length : (n : Tree) (a : Role) → length (flags n a) ≡ rows n a
  flags-length (node k w g s e ps) a =
      length-append (own_flag a (wants_pair (node k w g s e ps) a)) _
      ∙ ap₂ (λ u v. u + v) (own-flag-length a (wants_pair (node k w g s e ps) a))
      (flags-step (node k w g s e ps) a (inside (wants_pair (node k w g s e ps) a) a) ps (widest-inside (node k w g s e ps) a)
      (parts-flags-length ps (first_roles (ways (inside (wants_pair (node k w g s e ps) a) a) (node k w g s e ps)))) (some_way (ways (inside (wants_pair (node k w g s e ps) a) a) (node k w g s e ps))) refl)

  pub parts-flags-length : (ps : Parts) (xs : List Role) → length (parts_flags ps xs) ≡ parts_rows ps xs
  parts-flags-length none xs = refl
  parts-flags-length (gap ps) xs = parts-flags-length ps xs
  parts-flags-length (part n ps) [] = refl
  parts-flags-length (part n ps) (a ∷ xs) = length-append (flags n a) (parts_flags ps xs) ∙ ap₂ (λ u v. u + v) (flags-length n a) (parts-flags-length ps xs)

-- The numbers of flags that are set

pub numbers : ℕ → List Bool → List ℕ
numbers r [] = []
numbers r (b ∷ bs) = cond b (r ∷ []) [] ++ numbers (suc r) bs

pub no_number : (bs : List Bool) (r : ℕ) → length (numbers r bs) ≡ 0 → bs ≡ unwrapped (length bs)
unfolding numbers
no_number [] r h = refl
no_number (true ∷ bs) r h = absurd (let z : suc (length (numbers (suc r) bs)) ≡ 0 = h in omega (arith, z))
no_number (false ∷ bs) r h = ap (λ u. false ∷ u) (no_number bs (suc r) h)

numbers-append : (r : ℕ) (xs ys : List Bool) → numbers r (xs ++ ys) ≡ numbers r xs ++ numbers (r + length xs) ys
unfolding numbers
numbers-append r [] ys = ap (λ m. numbers m ys) (let e : r ≡ r + 0 = omega arith in e)
numbers-append r (b ∷ xs) ys =
    ap (λ u. cond b (r ∷ []) [] ++ u) (numbers-append (suc r) xs ys ∙ ap (λ m. numbers (suc r) xs ++ numbers m ys) (let e : suc r + length xs ≡ r + suc (length xs) = omega arith in e))
    ∙ sym (append_assoc (cond b (r ∷ []) []) (numbers (suc r) xs) _)

numbers-unwrapped : (m r : ℕ) → numbers r (unwrapped m) ≡ []
unfolding numbers
numbers-unwrapped zero r = refl
numbers-unwrapped (suc m) r = numbers-unwrapped m (suc r)

wrapped-empty : (ps : Parts) (r : ℕ) → parts_wrapped ps [] r ≡ []
unfolding parts_wrapped
wrapped-empty none r = refl
wrapped-empty (gap ps) r = wrapped-empty ps r
wrapped-empty (part n ps) r = refl

own-numbers : (n : Tree) (a : Role) (r : ℕ) → numbers r (own_flag a (wants_pair n a)) ≡ cond (wants_pair n a) (r ∷ []) []
unfolding numbers
own-numbers n (expr y i f) r = of (wants_pair n (expr y i f))
  where
    of : (b : Bool) → cond b (r ∷ []) [] ++ [] ≡ cond b (r ∷ []) []
    of true = refl
    of false = refl
own-numbers n _ r = refl

pub no_roles : (xs : List (List (PieceOf Role))) → some_way xs ≡ false → first_roles xs ≡ []
no_roles [] h = refl
no_roles (y ∷ ys) h = absurd (false≢true (sym h))

numbers-step : (n : Tree) (c : Role) (ps : Parts) (m r : ℕ) → parts_wrapped ps (first_roles (ways c n)) r ≡ numbers r (parts_flags ps (first_roles (ways c n))) → (v : Bool) → some_way (ways c n) ≡ v →
    parts_wrapped ps (first_roles (ways c n)) r ≡ numbers r (cond v (parts_flags ps (first_roles (ways c n))) (unwrapped m))
numbers-step n c ps m r h true k = h
numbers-step n c ps m r h false k = ap (λ xs. parts_wrapped ps xs r) (no_roles (ways c n) k) ∙ wrapped-empty ps r ∙ sym (numbers-unwrapped m r)

behind-own : (n : Tree) (a : Role) (r : ℕ) → has_row a + r ≡ r + length (own_flag a (wants_pair n a))
behind-own n a r = let e : has_row a + r ≡ r + has_row a = omega arith in e ∙ ap (λ m. r + m) (sym (own-flag-length a (wants_pair n a)))

mutual
  unfolding wrapped_rows parts_wrapped flags parts_flags numbers

  pub wrapped-numbers : (n : Tree) (a : Role) (r : ℕ) → wrapped_rows n a r ≡ numbers r (flags n a)
  wrapped-numbers (node k w g s e ps) a r =
      ap₂ (λ u v. u ++ v) (sym (own-numbers (node k w g s e ps) a r))
      (numbers-step (node k w g s e ps) (inside (wants_pair (node k w g s e ps) a) a) ps (parts_rows ps (first_roles (ways (widest a) (node k w g s e ps)))) (has_row a + r)
      (parts-numbers ps (first_roles (ways (inside (wants_pair (node k w g s e ps) a) a) (node k w g s e ps))) (has_row a + r))
      (some_way (ways (inside (wants_pair (node k w g s e ps) a) a) (node k w g s e ps))) refl
      ∙ ap (λ m. numbers m (cond (some_way (ways (inside (wants_pair (node k w g s e ps) a) a) (node k w g s e ps))) (parts_flags ps (first_roles (ways (inside (wants_pair (node k w g s e ps) a) a) (node k w g s e ps)))) (unwrapped (parts_rows ps (first_roles (ways (widest a) (node k w g s e ps))))))) (behind-own (node k w g s e ps) a r))
      ∙ sym (numbers-append r (own_flag a (wants_pair (node k w g s e ps) a)) _)

  pub parts-numbers : (ps : Parts) (xs : List Role) (r : ℕ) → parts_wrapped ps xs r ≡ numbers r (parts_flags ps xs)
  parts-numbers none xs r = refl
  parts-numbers (gap ps) xs r = parts-numbers ps xs r
  parts-numbers (part n ps) [] r = refl
  parts-numbers (part n ps) (a ∷ xs) r =
      ap₂ (λ u v. u ++ v) (wrapped-numbers n a r) (parts-numbers ps xs (r + rows n a) ∙ ap (λ m. numbers (r + m) (parts_flags ps xs)) (sym (flags-length n a)))
      ∙ sym (numbers-append r (flags n a) (parts_flags ps xs))

below-first : (bs : List Bool) (r x : ℕ) → x < r → has_number (numbers r bs) x ≡ false
unfolding numbers
below-first [] r x h = refl
below-first (true ∷ bs) r x h = let e : nat_eq r x ≡ false = grind (arith, nat_tests) in ap (λ b. b || has_number (numbers (suc r) bs) x) e ∙ below-first bs (suc r) x (omega arith)
below-first (false ∷ bs) r x h = below-first bs (suc r) x (omega arith)

flag-number : (bs : List Bool) (r i : ℕ) → has_number (numbers r bs) (r + i) ≡ get_or bs i false
unfolding numbers
flag-number [] r zero = refl
flag-number [] r (suc i) = refl
flag-number (true ∷ bs) r zero = let e : nat_eq r (r + 0) ≡ true = grind (arith, nat_tests) in ap (λ b. b || has_number (numbers (suc r) bs) (r + 0)) e
flag-number (false ∷ bs) r zero = below-first bs (suc r) (r + 0) (omega arith)
flag-number (true ∷ bs) r (suc i) =
    let e : nat_eq r (r + suc i) ≡ false = grind (arith, nat_tests) in
    let m : r + suc i ≡ suc r + i = omega arith in
    ap (λ b. b || has_number (numbers (suc r) bs) (r + suc i)) e ∙ ap (has_number (numbers (suc r) bs)) m ∙ flag-number bs (suc r) i
flag-number (false ∷ bs) r (suc i) = let m : r + suc i ≡ suc r + i = omega arith in ap (has_number (numbers (suc r) bs)) m ∙ flag-number bs (suc r) i

-- the flags are those of the wrapped nodes
pub flagged_wrapped : (n : Tree) (a : Role) (x : ℕ) → is_flagged (flags n a) x ≡ has_number (wrapped_rows n a 1) x
flagged_wrapped n a zero = sym (ap (λ u. has_number u 0) (wrapped-numbers n a 1) ∙ below-first (flags n a) 1 0 (omega arith))
flagged_wrapped n a (suc i) = sym (ap (λ u. has_number u (suc i)) (wrapped-numbers n a 1) ∙ (let m : suc i ≡ 1 + i = omega arith in ap (has_number (numbers 1 (flags n a))) m) ∙ flag-number (flags n a) 1 i)
