-- The rows of the wrapped nodes are those of nodes that want a pair.
use Rattle.std.proofs.Common.{◌≡◌, ℕ, ◌+◌, ◌<◌, ◌≤◌, Bool, true, false, cond, List, [], ◌∷◌, ◌++◌, refl, sym, ap, ap₂, ◌∙◌, subst, ◌⊎◌, inl, inr, arith, map, filter}
use Rattle.std.specs.Prelude.{◌&&◌, ◌||◌, nat_eq}
use Rattle.std.proofs.lemmas.Bool.{and_parts, and_from, false≢true, true≢false}
use Rattle.std.proofs.lemmas.Bool.Decides.{nat_tests}
use Rattle.language.specs.declared.Rank.TheVariants.{Expression}
use Rattle.language.specs.declared.Start.TheVariants.{Any}
use Rattle.tree.specs.Tree.{Tree, node, Parts, none, part, gap, parts_of, bare}
use Rattle.tree.specs.Uses.{implies, is_lean}
use Rattle.language.specs.Vocabulary.{precedence, takes_number}
use Rattle.language.specs.Pieces.{Role, expr, chain_part, pattern, script, PieceOf, Spelling}
use Rattle.language.specs.Grammar.{ways, ways_bare, spellings}
use Rattle.language.specs.RowPositions.{has_row, rows, parts_rows, first_roles, widest}
use Rattle.language.specs.Layout.{some_way, wants_pair, inside, wrapped_rows, parts_wrapped, has_number}
use Rattle.language.specs.LayoutFits.{fits, Marks, PartsMark}
use Rattle.language.specs.Claims.{Derives}
use Rattle.language.specs.Token.{Token}
use Rattle.language.specs.Places.{NextIn, itself}
use Rattle.language.specs.declared.Language.{Language}
use Rattle.language.specs.Languages.{DerivesIn, Seen, seen_in}
use Rattle.tokens.specs.Reading.{any_goal}
use Rattle.tree.specs.declared.kind.Pair.{Pair}
use Rattle.language.proofs.lower_bound.Domination.{ways_of, settled}
use Rattle.language.proofs.lower_bound.Domination.{fits as fits_at}
use Rattle.language.proofs.table.Alike.{Like, same, at_expressions, at_chains, at_patterns, AllLike, end, next, spellings_alike}
use Rattle.language.proofs.layout.DerivedFits.{derived_fits, first_alike, first_among, first_roles_are}

-- Rows at positions of one sort

pub rows_like : {b : Bool} (n : Tree) {x y : Role} → Like b x y → rows n x ≡ rows n y
unfolding rows
rows_like n same = refl
rows_like (node k w g s e ps) at_expressions = refl
rows_like (node k w g s e ps) at_chains = refl
rows_like (node k w g s e ps) at_patterns = refl

pub parts_rows_like : {b : Bool} (ps : Parts) {xs ys : List Role} → AllLike b xs ys → parts_rows ps xs ≡ parts_rows ps ys
unfolding parts_rows
parts_rows_like none h = refl
parts_rows_like (gap ps) h = parts_rows_like ps h
parts_rows_like (part n ps) end = refl
parts_rows_like (part n ps) (next l h) = ap₂ (λ a b. a + b) (rows_like n l) (parts_rows_like ps h)

no_rows : (ps : Parts) → parts_rows ps [] ≡ 0
unfolding parts_rows
no_rows none = refl
no_rows (gap ps) = no_rows ps
no_rows (part n ps) = refl

-- The widest position has a way where another has one

widest_like : (a : Role) → Like false a (widest a)
widest_like (expr y i f) = at_expressions
widest_like (chain_part f) = at_chains
widest_like (pattern b f) = at_patterns
widest_like _ = same

fits_widest : (a : Role) (x : Spelling) → fits_at a x ≡ true → fits_at (widest a) x ≡ true
fits_widest (expr y i f) x h = let p = and_parts _ _ h in and_from _ _ (and_from _ _ (any_symbol (precedence x.rank)) (and_from _ _ (any_in x.needs_in) refl)) p.1
  where
    any_symbol : (z : ℕ) → takes_number 0 z ≡ true
    any_symbol z = grind (arith, nat_tests)

    any_in : (b : Bool) → implies b true ≡ true
    any_in true = refl
    any_in false = refl
fits_widest (chain_part f) x h = h
fits_widest (pattern b f) x h = let p = and_parts _ _ h in and_from _ _ refl p.1
fits_widest _ x h = h

some_kept : (a c : Role) → ((x : Spelling) → fits_at a x ≡ true → fits_at c x ≡ true) → (xs : List Spelling) → some_way (ways_of a xs) ≡ true → some_way (ways_of c xs) ≡ true
some_kept a c f [] h = h
some_kept a c f (x ∷ xs) h = go (fits_at a x) (fits_at c x) refl refl (λ k. some_kept a c f xs k) h
  where
    go : (s t : Bool) → fits_at a x ≡ s → fits_at c x ≡ t → (some_way (ways_of a xs) ≡ true → some_way (ways_of c xs) ≡ true) → some_way (map (settled a) (cond s (x ∷ filter (fits_at a) xs) (filter (fits_at a) xs))) ≡ true →
        some_way (map (settled c) (cond t (x ∷ filter (fits_at c) xs) (filter (fits_at c) xs))) ≡ true
    go s true p q others h = refl
    go true false p q others h = absurd (false≢true (sym q ∙ f x p))
    go false false p q others h = others h

pub some_widest : (a : Role) (n : Tree) → some_way (ways a n) ≡ true → some_way (ways (widest a) n) ≡ true
unfolding ways ways_bare
some_widest a n h = go (is_lean (bare n)) h
  where
    go : (t : Bool) → some_way (cond t (ways_of a (spellings a (bare n))) []) ≡ true → some_way (cond t (ways_of (widest a) (spellings (widest a) (bare n))) []) ≡ true
    go false h = h
    go true h = subst (λ xs. some_way (ways_of (widest a) xs) ≡ true) (spellings_alike (widest_like a) (bare n)) (some_kept a (widest a) (λ x p. fits_widest a x p) (spellings a (bare n)) h)

no_way_left : (qss : List (List (PieceOf Role))) → some_way qss ≡ false → first_roles qss ≡ []
no_way_left [] h = refl
no_way_left (qs ∷ qss) h = absurd (true≢false h)

-- the rows below a node are no more than at its widest position
pub rows_below : (a : Role) (n : Tree) → parts_rows (parts_of n) (first_roles (ways a n)) ≤ parts_rows (parts_of n) (first_roles (ways (widest a) n))
rows_below a n = go (some_way (ways a n)) refl
  where
    go : (t : Bool) → some_way (ways a n) ≡ t → parts_rows (parts_of n) (first_roles (ways a n)) ≤ parts_rows (parts_of n) (first_roles (ways (widest a) n))
    go true h =
        let u = first_alike {b = false} n (widest_like a) (λ e. absurd (false≢true e)) (first_among (ways a n) h) (some_widest a n h) in
        let k = parts_rows_like (parts_of n) (subst (λ xs. AllLike false xs (first_roles (ways (widest a) n))) (first_roles_are (ways a n)) u.0) in
        omega (arith, k)
    go false h = let k = ap (λ xs. parts_rows (parts_of n) xs) (no_way_left (ways a n) h) ∙ no_rows (parts_of n) in omega (arith, k)

-- a node in a pair has a row
data Inside : Tree → Role → Bool → Type 0 where
  paired : {n : Tree} {a : Role} → has_row a ≡ 1 → widest a ≡ expr Expression true Any → Inside n a true
  unpaired : {n : Tree} {a : Role} → Inside n a false

inside_of : (n : Tree) (a : Role) (t : Bool) → wants_pair n a ≡ t → Inside n a t
inside_of n a false h = unpaired
inside_of n (expr y i f) true h = paired refl refl
inside_of n _ true h = absurd (false≢true h)

rows_inside : (n : Tree) (a : Role) (t : Bool) → Inside n a t → parts_rows (parts_of n) (first_roles (ways (inside t a) n)) ≤ parts_rows (parts_of n) (first_roles (ways (widest a) n))
rows_inside n a true (paired h k) = subst (λ c. parts_rows (parts_of n) (first_roles (ways (expr Expression true Any) n)) ≤ parts_rows (parts_of n) (first_roles (ways c n))) (sym k) (omega arith)
rows_inside n a false unpaired = rows_below a n

rows_are : (n : Tree) (a : Role) → rows n a ≡ has_row a + parts_rows (parts_of n) (first_roles (ways (widest a) n))
unfolding rows
rows_are (node k w g s e ps) a = refl

-- Numbers in lists

has_join : (xs ys : List ℕ) (k : ℕ) → has_number (xs ++ ys) k ≡ (has_number xs k || has_number ys k)
has_join [] ys k = refl
has_join (x ∷ xs) ys k = go (nat_eq x k) (has_join xs ys k)
  where
    go : (t : Bool) → has_number (xs ++ ys) k ≡ (has_number xs k || has_number ys k) → (t || has_number (xs ++ ys) k) ≡ ((t || has_number xs k) || has_number ys k)
    go true h = refl
    go false h = h

or_true : (x y : Bool) → (x || y) ≡ true → (x ≡ true) ⊎ (y ≡ true)
or_true true y h = inl refl
or_true false y h = inr h

or_none : (x y : Bool) → y ≡ false → (x || y) ≡ x
or_none true y h = refl
or_none false y h = h

not_true : (x : Bool) → (x ≡ true → ⊥) → x ≡ false
not_true true h = absurd (h refl)
not_true false h = refl

-- between these rows
pub record Between (low k high : ℕ) : Type 0 where
  pub from : low ≤ k
  pub to : k < high

in_pair : (n : Tree) (a : Role) (t : Bool) → Inside n a t → (r k : ℕ) → has_number (cond t (r ∷ []) []) k ≡ true → (k ≡ r) × (has_row a ≡ 1)
in_pair n a true (paired h e) r k x = (let y : r ≡ k = grind (arith, nat_tests, x) in sym y, h)
in_pair n a false unpaired r k x = absurd (false≢true x)

node_between : (n : Tree) (a : Role) (t : Bool) → Inside n a t → (r k : ℕ) →
    (has_number (parts_wrapped (parts_of n) (first_roles (ways (inside t a) n)) (has_row a + r)) k ≡ true → Between (has_row a + r) k ((has_row a + r) + parts_rows (parts_of n) (first_roles (ways (inside t a) n)))) →
    has_number (cond t (r ∷ []) [] ++ parts_wrapped (parts_of n) (first_roles (ways (inside t a) n)) (has_row a + r)) k ≡ true → Between r k (r + rows n a)
node_between n a t i r k f h = of (or_true _ _ (sym (has_join (cond t (r ∷ []) []) (parts_wrapped (parts_of n) (first_roles (ways (inside t a) n)) (has_row a + r)) k) ∙ h))
  where
    of : (has_number (cond t (r ∷ []) []) k ≡ true) ⊎ (has_number (parts_wrapped (parts_of n) (first_roles (ways (inside t a) n)) (has_row a + r)) k ≡ true) → Between r k (r + rows n a)
    of (inl x) = let u = in_pair n a t i r k x in let v = rows_are n a in let p = u.0 in let q = u.1 in record { from = omega (arith, p); to = omega (arith, p, q, v) }
    of (inr x) = let u = f x in let v = rows_are n a in let w = rows_inside n a t i in let p = u.from in let q = u.to in record { from = omega (arith, p); to = omega (arith, q, v, w) }

either_between : (n : Tree) (a : Role) (ps : Parts) (xs : List Role) (r k : ℕ) → (has_number (wrapped_rows n a r) k ≡ true → Between r k (r + rows n a)) →
    (has_number (parts_wrapped ps xs (r + rows n a)) k ≡ true → Between (r + rows n a) k ((r + rows n a) + parts_rows ps xs)) →
    has_number (wrapped_rows n a r ++ parts_wrapped ps xs (r + rows n a)) k ≡ true → Between r k (r + (rows n a + parts_rows ps xs))
either_between n a ps xs r k f g h = of (or_true _ _ (sym (has_join (wrapped_rows n a r) (parts_wrapped ps xs (r + rows n a)) k) ∙ h))
  where
    of : (has_number (wrapped_rows n a r) k ≡ true) ⊎ (has_number (parts_wrapped ps xs (r + rows n a)) k ≡ true) → Between r k (r + (rows n a + parts_rows ps xs))
    of (inl x) = let u = f x in let p = u.from in let q = u.to in record { from = p; to = omega (arith, q) }
    of (inr x) = let u = g x in let p = u.from in let q = u.to in record { from = omega (arith, p); to = omega (arith, q) }

mutual
  unfolding wrapped_rows parts_wrapped parts_rows

  pub wrapped_between : (n : Tree) (a : Role) (r k : ℕ) → has_number (wrapped_rows n a r) k ≡ true → Between r k (r + rows n a)
  wrapped_between (node kind w g s e ps) a r k h =
      node_between (node kind w g s e ps) a (wants_pair (node kind w g s e ps) a) (inside_of (node kind w g s e ps) a _ refl) r k
      (λ x. parts_between ps (first_roles (ways (inside (wants_pair (node kind w g s e ps) a) a) (node kind w g s e ps))) (has_row a + r) k x) h

  pub parts_between : (ps : Parts) (xs : List Role) (r k : ℕ) → has_number (parts_wrapped ps xs r) k ≡ true → Between r k (r + parts_rows ps xs)
  parts_between none xs r k h = absurd (false≢true h)
  parts_between (gap ps) xs r k h = parts_between ps xs r k h
  parts_between (part n ps) [] r k h = absurd (false≢true h)
  parts_between (part n ps) (a ∷ xs) r k h = either_between n a ps xs r k (λ x. wrapped_between n a r k x) (λ x. parts_between ps xs (r + rows n a) k x) h

-- A test that passes just those rows marks the wrapped nodes

-- from one row to another a test passes just the rows of a list
abbrev pub Passes : (ℕ → Bool) → List ℕ → ℕ → ℕ → Type 0
Passes W xs low high = (k : ℕ) → low ≤ k → k < high → W k ≡ has_number xs k

own_row : (W : ℕ → Bool) (n : Tree) (a : Role) (t : Bool) → Inside n a t → wants_pair n a ≡ t → (r : ℕ) →
    Passes W (cond t (r ∷ []) [] ++ parts_wrapped (parts_of n) (first_roles (ways (inside t a) n)) (has_row a + r)) r (r + rows n a) → (nat_eq (has_row a) 1 && W r) ≡ t
own_row W n (expr y i f) true v h r p = let u = rows_are n (expr y i f) in p r (omega arith) (omega (arith, u)) ∙ grind (arith, nat_tests)
own_row W n (expr y i f) false v h r p =
    let u = rows_are n (expr y i f) in p r (omega arith) (omega (arith, u)) ∙
    not_true _ (λ x. let k = (parts_between (parts_of n) (first_roles (ways (expr y i f) n)) (1 + r) r x).from in absurd (omega (arith, k)))
own_row W n _ true v h r p = absurd (false≢true h)
own_row W n _ false v h r p = refl

below_row : (W : ℕ → Bool) (n : Tree) (a : Role) (t : Bool) → Inside n a t → (r : ℕ) →
    Passes W (cond t (r ∷ []) [] ++ parts_wrapped (parts_of n) (first_roles (ways (inside t a) n)) (has_row a + r)) r (r + rows n a) →
    Passes W (parts_wrapped (parts_of n) (first_roles (ways (inside t a) n)) (has_row a + r)) (has_row a + r) ((has_row a + r) + parts_rows (parts_of n) (first_roles (ways (inside t a) n)))
below_row W n a t v r p k low high =
    let u = rows_are n a in let w = rows_inside n a t v in
    p k (omega (arith, low)) (omega (arith, high, u, w)) ∙
    (has_join (cond t (r ∷ []) []) (parts_wrapped (parts_of n) (first_roles (ways (inside t a) n)) (has_row a + r)) k ∙
    ap (λ x. x || has_number (parts_wrapped (parts_of n) (first_roles (ways (inside t a) n)) (has_row a + r)) k)
    (not_true _ (λ x. let y = in_pair n a t v r k x in let q = y.0 in let m = y.1 in absurd (omega (arith, q, m, low)))))

mutual
  unfolding Marks PartsMark wrapped_rows parts_wrapped parts_rows

  pub marks : (W : ℕ → Bool) (n : Tree) (a : Role) (r : ℕ) → Passes W (wrapped_rows n a r) r (r + rows n a) → Marks W n a r
  marks W (node k w g s e ps) a r p =
      let v = inside_of (node k w g s e ps) a (wants_pair (node k w g s e ps) a) refl in (
        own_row W (node k w g s e ps) a (wants_pair (node k w g s e ps) a) v refl r p,
        parts_mark W ps (first_roles (ways (inside (wants_pair (node k w g s e ps) a) a) (node k w g s e ps))) (has_row a + r) (below_row W (node k w g s e ps) a (wants_pair (node k w g s e ps) a) v r p),
      )

  pub parts_mark : (W : ℕ → Bool) (ps : Parts) (xs : List Role) (r : ℕ) → Passes W (parts_wrapped ps xs r) r (r + parts_rows ps xs) → PartsMark W ps xs r
  parts_mark W none xs r p = tt
  parts_mark W (gap ps) xs r p = parts_mark W ps xs r p
  parts_mark W (part n ps) [] r p = tt
  parts_mark W (part n ps) (a ∷ xs) r p = (
    marks W n a r (λ k low high. p k low (omega (arith, high)) ∙ (has_join (wrapped_rows n a r) (parts_wrapped ps xs (r + rows n a)) k ∙
        or_none _ _ (not_true _ (λ x. let q = (parts_between ps xs (r + rows n a) k x).from in absurd (omega (arith, q, high)))))),
    parts_mark W ps xs (r + rows n a) (λ k low high. p k (omega (arith, low)) (omega (arith, high)) ∙ (has_join (wrapped_rows n a r) (parts_wrapped ps xs (r + rows n a)) k ∙
        ap (λ x. x || has_number (parts_wrapped ps xs (r + rows n a)) k) (not_true _ (λ x. let q = (wrapped_between n a r k x).to in absurd (omega (arith, q, low)))))),
  )

-- so the wrapped rows mark the wrapped nodes
pub wrapped_marks : (n : Tree) (a : Role) (r : ℕ) → Marks (has_number (wrapped_rows n a r)) n a r
wrapped_marks n a r = marks _ n a r (λ k low high. refl)

-- so what a text derives can be laid out
pub text_fits : (text : List ℕ) (n : Tree) (P : List Pair) → Derives text n P → fits (has_number (wrapped_rows n script 1)) n script 1 ≡ true
text_fits text n P d = derived_fits Token (NextIn text any_goal) itself (has_number (wrapped_rows n script 1)) d.1.1 1 (wrapped_marks n script 1)

-- in each language
pub text_fits_in : (language : Language) (text : List ℕ) (n : Tree) (P : List Pair) → DerivesIn language text n P → fits (has_number (wrapped_rows n script 1)) n script 1 ≡ true
text_fits_in language text n P d = derived_fits Token (Seen Token (NextIn text any_goal) language) (seen_in language) (has_number (wrapped_rows n script 1)) d.1.2 1 (wrapped_marks n script 1)
