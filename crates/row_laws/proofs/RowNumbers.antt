-- The rows by position number the nodes that have rows.
use Rattle.std.proofs.Common.{◌≡◌, ℕ, zero, suc, ◌+◌, ◌<◌, ◌≤◌, ◌-◌, Bool, true, false, List, [], ◌∷◌, ◌++◌, length, refl, sym, subst, ◌∙◌, ap, arith, length-append}
use Rattle.std.specs.Prelude.{slice_get, Option, Some, None, nat_lt}
use Rattle.std.proofs.lemmas.Bool.{and_parts, false≢true}
use Rattle.std.proofs.lemmas.Bool.Decides.{nat_tests}
use Rattle.tree.specs.Tree.{Tree, node, Parts, none, part, gap}
use Rattle.tree.specs.Flat.{post_order, parts_post_order}
use Rattle.tree.specs.NodeUses.{rows_of}
use Rattle.language.specs.declared.Rank.TheVariants.{Expression}
use Rattle.language.specs.declared.Start.TheVariants.{Any}
use Rattle.language.specs.Pieces.{Role, expr, script}
use Rattle.language.specs.Grammar.{ways}
use Rattle.language.specs.RowPositions.{first_roles}
use Rattle.language.specs.Claims.{row_nodes, parts_row_nodes}
use Rattle.row_laws.specs.Lined.{leads, lined, parts_lined, rows_at, parts_rows_at}
use Rattle.row_laws.specs.Laws.{NumbersRows}
use Rattle.row_laws.proofs.Table.{is_row}
use Rattle.row_laws.proofs.Walk.{script_rows}

-- Elements of lists

get_below : {X : Type 0} (xs : List X) (i : ℕ) (v : X) → slice_get xs i ≡ Some v → i < length xs
get_below [] i v h = absurd (cc)
get_below (x ∷ xs) zero v h = omega arith
get_below (x ∷ xs) (suc i) v h = let e : i < length xs = get_below xs i v h in omega (arith, e)

get_left : {X : Type 0} (xs ys : List X) (i : ℕ) (v : X) → slice_get xs i ≡ Some v → slice_get (xs ++ ys) i ≡ Some v
get_left [] ys i v h = absurd (cc)
get_left (x ∷ xs) ys zero v h = h
get_left (x ∷ xs) ys (suc i) v h = get_left xs ys i v h

get_right : {X : Type 0} (xs ys : List X) (i k : ℕ) → i ≡ length xs + k → slice_get (xs ++ ys) i ≡ slice_get ys k
get_right [] ys i k h = let e : i ≡ k = omega (arith, h) in ap (slice_get ys) e
get_right (x ∷ xs) ys zero k h = absurd (omega (arith, h))
get_right (x ∷ xs) ys (suc i) k h = let e : i ≡ length xs + k = omega (arith, h) in get_right xs ys i k e

-- in the first list, or in the second
pub data Found {X : Type 0} (xs ys : List X) (i : ℕ) (v : X) : Type 0 where
  in_first : slice_get xs i ≡ Some v → Found xs ys i v
  in_second : (k : ℕ) → i ≡ length xs + k → slice_get ys k ≡ Some v → Found xs ys i v

further : {X : Type 0} (x : X) (xs ys : List X) (i : ℕ) (v : X) → Found xs ys i v → Found (x ∷ xs) ys (suc i) v
further x xs ys i v (in_first h) = in_first h
further x xs ys i v (in_second k e h) = in_second k (omega (arith, e)) h

get_either : {X : Type 0} (xs ys : List X) (i : ℕ) (v : X) → slice_get (xs ++ ys) i ≡ Some v → Found xs ys i v
get_either [] ys i v h = in_second i (omega arith) h
get_either (x ∷ xs) ys zero v h = in_first h
get_either (x ∷ xs) ys (suc i) v h = further x xs ys i v (get_either xs ys i v h)

-- the numbers, from this one on, number these nodes among all
record Numbers (r : ℕ) (rs : List (Option ℕ)) (ts ms : List Tree) : Type 0 where
  pub all : length rs ≡ length ts
  pub nodes : (i q : ℕ) → slice_get rs i ≡ Some (Some q) → (j : ℕ) × (m : Tree) × (q ≡ r + j) × (slice_get ts i ≡ Some m) × (slice_get ms j ≡ Some m)
  pub found : (j : ℕ) → j < length ms → (i : ℕ) × (slice_get rs i ≡ Some (Some (r + j)))
  pub once : (i j q : ℕ) → slice_get rs i ≡ Some (Some q) → slice_get rs j ≡ Some (Some q) → i ≡ j

no_numbers : (r : ℕ) → Numbers r [] [] []
no_numbers r = record {
  all = refl;
  nodes = λ i q h. absurd (cc);
  found = λ j h. absurd (omega (arith, h));
  once = λ i j q h g. absurd (cc);
}

module _ (r u : ℕ) (rs xs : List (Option ℕ)) (ts ys ms ns : List Tree) (a : Numbers r rs ts ms) (b : Numbers u xs ys ns) (e : u ≡ r + length ms) where
  joined_nodes : (i q : ℕ) → slice_get (rs ++ xs) i ≡ Some (Some q) → (j : ℕ) × (m : Tree) × (q ≡ r + j) × (slice_get (ts ++ ys) i ≡ Some m) × (slice_get (ms ++ ns) j ≡ Some m)
  joined_nodes i q h = of (get_either rs xs i (Some q) h)
    where
      of : Found rs xs i (Some q) → (j : ℕ) × (m : Tree) × (q ≡ r + j) × (slice_get (ts ++ ys) i ≡ Some m) × (slice_get (ms ++ ns) j ≡ Some m)
      of (in_first g) = let p = a.nodes i q g in (p.0, p.1, p.2, get_left ts ys i p.1 p.3, get_left ms ns p.0 p.1 p.4)
      of (in_second k d g) =
          let p = b.nodes k q g in
          let n = a.all in
          let w = p.2 in
          let v : i ≡ length ts + k = omega (arith, d, n) in
          let z : q ≡ r + (length ms + p.0) = omega (arith, w, e) in
          (length ms + p.0, p.1, z, get_right ts ys i k v ∙ p.3, get_right ms ns (length ms + p.0) p.0 refl ∙ p.4)

  joined_found : (j : ℕ) → j < length (ms ++ ns) → (i : ℕ) × (slice_get (rs ++ xs) i ≡ Some (Some (r + j)))
  joined_found j h = of (nat_lt j (length ms)) refl
    where
      of : (v : Bool) → nat_lt j (length ms) ≡ v → (i : ℕ) × (slice_get (rs ++ xs) i ≡ Some (Some (r + j)))
      of true t =
          let l : j < length ms = grind (arith, nat_tests) in
          let p = a.found j l in (p.0, get_left rs xs p.0 (Some (r + j)) p.1)
      of false t =
          let n = length-append ms ns in
          let l : length ms ≤ j = grind (arith, nat_tests) in
          let s : (k : ℕ) × (j ≡ length ms + k) = (j - length ms, omega (arith, l)) in
          let c = s.1 in
          let w : s.0 < length ns = omega (arith, h, n, c) in
          let p = b.found s.0 w in
          let z : u + s.0 ≡ r + j = omega (arith, e, c) in
          (length rs + p.0, get_right rs xs (length rs + p.0) p.0 refl ∙ p.1 ∙ ap (λ x. Some (Some x)) z)

  -- a number of the first isn't one of the second
  apart_numbers : (i k q : ℕ) → slice_get rs i ≡ Some (Some q) → slice_get xs k ≡ Some (Some q) → ⊥
  apart_numbers i k q h g =
      let p = a.nodes i q h in
      let l : p.0 < length ms = get_below ms p.0 p.1 p.4 in
      let w = b.nodes k q g in
      let x = p.2 in
      let y = w.2 in
      omega (arith, l, x, y, e)

  joined_once : (i j q : ℕ) → slice_get (rs ++ xs) i ≡ Some (Some q) → slice_get (rs ++ xs) j ≡ Some (Some q) → i ≡ j
  joined_once i j q h g = of (get_either rs xs i (Some q) h) (get_either rs xs j (Some q) g)
    where
      of : Found rs xs i (Some q) → Found rs xs j (Some q) → i ≡ j
      of (in_first x) (in_first y) = a.once i j q x y
      of (in_first x) (in_second k d y) = absurd (apart_numbers i k q x y)
      of (in_second k d x) (in_first y) = absurd (apart_numbers j k q y x)
      of (in_second k d x) (in_second l c y) = let z = b.once k l q x y in omega (arith, d, c, z)

  joined_numbers : Numbers r (rs ++ xs) (ts ++ ys) (ms ++ ns)
  joined_numbers = record {
    all = length-append rs xs ∙ (λ j. a.all j + b.all j) ∙ sym (length-append ts ys);
    nodes = joined_nodes;
    found = joined_found;
    once = joined_once;
  }

-- one number alone
single : (r k q : ℕ) → slice_get (Some r ∷ []) k ≡ Some (Some q) → (k ≡ 0) × (r ≡ q)
single r zero q h = (refl, cc)
single r (suc k) q h = absurd (cc)

no_single : (k q : ℕ) → slice_get {X = Option ℕ} (None ∷ []) k ≡ Some (Some q) → ⊥
no_single zero q h = cc
no_single (suc k) q h = cc

module _ (r : ℕ) (rs : List (Option ℕ)) (ts ms : List Tree) (n : Tree) where
  -- a node with a number, behind what is in it
  above_nodes : Numbers (r + 1) rs ts ms → (i q : ℕ) → slice_get (rs ++ Some r ∷ []) i ≡ Some (Some q) → (j : ℕ) × (m : Tree) × (q ≡ r + j) × (slice_get (ts ++ n ∷ []) i ≡ Some m) × (slice_get (n ∷ ms) j ≡ Some m)
  above_nodes a i q h = of (get_either rs (Some r ∷ []) i (Some q) h)
    where
      of : Found rs (Some r ∷ []) i (Some q) → (j : ℕ) × (m : Tree) × (q ≡ r + j) × (slice_get (ts ++ n ∷ []) i ≡ Some m) × (slice_get (n ∷ ms) j ≡ Some m)
      of (in_first g) =
          let p = a.nodes i q g in
          let w = p.2 in
          let z : q ≡ r + suc p.0 = omega (arith, w) in
          (suc p.0, p.1, z, get_left ts (n ∷ []) i p.1 p.3, p.4)
      of (in_second k d g) =
          let c = single r k q g in
          let x = c.0 in
          let y = c.1 in
          let l = a.all in
          let v : i ≡ length ts + 0 = omega (arith, d, x, l) in
          let z : q ≡ r + 0 = omega (arith, y) in
          (0, n, z, get_right ts (n ∷ []) i 0 v, refl)

  above_found : Numbers (r + 1) rs ts ms → (j : ℕ) → j < length (n ∷ ms) → (i : ℕ) × (slice_get (rs ++ Some r ∷ []) i ≡ Some (Some (r + j)))
  above_found a zero h =
      let e : r ≡ r + 0 = omega arith in
      let z : length rs ≡ length rs + 0 = omega arith in
      (length rs, get_right rs (Some r ∷ []) (length rs) 0 z ∙ ap (λ x. Some (Some x)) e)
  above_found a (suc j) h =
      let l : j < length ms = omega (arith, h) in
      let p = a.found j l in
      let e : (r + 1) + j ≡ r + suc j = omega arith in
      (p.0, get_left rs (Some r ∷ []) p.0 (Some (r + suc j)) (p.1 ∙ ap (λ x. Some (Some x)) e))

  above_once : Numbers (r + 1) rs ts ms → (i j q : ℕ) → slice_get (rs ++ Some r ∷ []) i ≡ Some (Some q) → slice_get (rs ++ Some r ∷ []) j ≡ Some (Some q) → i ≡ j
  above_once a i j q h g = of (get_either rs (Some r ∷ []) i (Some q) h) (get_either rs (Some r ∷ []) j (Some q) g)
    where
      apart : (i k : ℕ) → slice_get rs i ≡ Some (Some q) → slice_get (Some r ∷ []) k ≡ Some (Some q) → ⊥
      apart i k x y =
          let p = a.nodes i q x in
          let w = p.2 in
          let c = (single r k q y).1 in
          omega (arith, w, c)

      of : Found rs (Some r ∷ []) i (Some q) → Found rs (Some r ∷ []) j (Some q) → i ≡ j
      of (in_first x) (in_first y) = a.once i j q x y
      of (in_first x) (in_second k d y) = absurd (apart i k x y)
      of (in_second k d x) (in_first y) = absurd (apart j k y x)
      of (in_second k d x) (in_second l c y) =
          let u = (single r k q x).0 in
          let v = (single r l q y).0 in
          omega (arith, d, c, u, v)

  above_numbers : Numbers (r + 1) rs ts ms → Numbers r (rs ++ Some r ∷ []) (ts ++ n ∷ []) (n ∷ ms)
  above_numbers a = record {
    all = length-append rs (Some r ∷ []) ∙ ap (λ u. u + 1) a.all ∙ sym (length-append ts (n ∷ []));
    nodes = above_nodes a;
    found = above_found a;
    once = above_once a;
  }

  -- and one with none
  bare_numbers : Numbers r rs ts ms → Numbers r (rs ++ None ∷ []) (ts ++ n ∷ []) ms
  bare_numbers a = record {
    all = length-append rs (None ∷ []) ∙ ap (λ u. u + 1) a.all ∙ sym (length-append ts (n ∷ []));
    nodes = λ i q h. let p = a.nodes i q (in_front i q h) in (p.0, p.1, p.2, get_left ts (n ∷ []) i p.1 p.3, p.4);
    found = λ j h. let p = a.found j h in (p.0, get_left rs (None ∷ []) p.0 (Some (r + j)) p.1);
    once = λ i j q h g. a.once i j q (in_front i q h) (in_front j q g);
  }
    where
      in_front : (i q : ℕ) → slice_get (rs ++ None ∷ []) i ≡ Some (Some q) → slice_get rs i ≡ Some (Some q)
      in_front i q h = of (get_either rs (None ∷ []) i (Some q) h)
        where
          of : Found rs (None ∷ []) i (Some q) → slice_get rs i ≡ Some (Some q)
          of (in_first x) = x
          of (in_second k d x) = absurd (no_single k q x)

-- Of a node and of parts at their positions

unrowed_numbers : (p : Role) (n : Tree) (ps : Parts) (r : ℕ) → is_row p ≡ false → Numbers r (parts_rows_at ps (first_roles (ways p n)) r) (parts_post_order ps) (parts_row_nodes ps (first_roles (ways p n))) →
    Numbers r (parts_rows_at ps (first_roles (ways p n)) r ++ None ∷ []) (parts_post_order ps ++ n ∷ []) (parts_row_nodes ps (first_roles (ways p n)))
unrowed_numbers p n ps r e a = bare_numbers r (parts_rows_at ps (first_roles (ways p n)) r) (parts_post_order ps) (parts_row_nodes ps (first_roles (ways p n))) n a

mutual
  unfolding lined parts_lined row_nodes parts_row_nodes rows_at parts_rows_at

  node_numbers : (p : Role) (n : Tree) (r : ℕ) → lined n p ≡ true → Numbers r (rows_at n p r) (post_order n) (row_nodes n p)
  node_numbers (expr y i f) (node k w g s e ps) r l =
      above_numbers r (parts_rows_at ps (first_roles (ways (expr Expression true Any) (node k w g s e ps))) (r + 1)) (parts_post_order ps) (parts_row_nodes ps (first_roles (ways (expr Expression true Any) (node k w g s e ps)))) (node k w g s e ps)
      (parts_numbers ps (first_roles (ways (expr Expression true Any) (node k w g s e ps))) (r + 1) (and_parts (leads (ways (expr Expression true Any) (node k w g s e ps)) ps) (parts_lined ps (first_roles (ways (expr Expression true Any) (node k w g s e ps)))) l).1)
  node_numbers p (node k w g s e ps) r l =
      unrowed_numbers p (node k w g s e ps) ps r refl
      (parts_numbers ps (first_roles (ways p (node k w g s e ps))) r (and_parts (leads (ways p (node k w g s e ps)) ps) (parts_lined ps (first_roles (ways p (node k w g s e ps)))) l).1)

  parts_numbers : (ps : Parts) (xs : List Role) (r : ℕ) → parts_lined ps xs ≡ true → Numbers r (parts_rows_at ps xs r) (parts_post_order ps) (parts_row_nodes ps xs)
  parts_numbers none xs r l = no_numbers r
  parts_numbers (gap ps) xs r l = parts_numbers ps xs r l
  parts_numbers (part t ps) [] r l = absurd (false≢true l)
  parts_numbers (part t ps) (x ∷ xs) r l =
      let q = and_parts (lined t x) (parts_lined ps xs) l in
      joined_numbers r (r + length (row_nodes t x)) (rows_at t x r) (parts_rows_at ps xs (r + length (row_nodes t x))) (post_order t) (parts_post_order ps) (row_nodes t x) (parts_row_nodes ps xs)
      (node_numbers x t r q.0) (parts_numbers ps xs (r + length (row_nodes t x)) q.1) refl

numbers_rows : (n : Tree) (rs : List (Option ℕ)) → rs ≡ rows_of n → Numbers 1 rs (post_order n) (row_nodes n script) → NumbersRows n
numbers_rows n rs e a = subst (λ u. Numbers 1 u (post_order n) (row_nodes n script) → NumbersRows n) (sym e) (λ b. record {
  all = b.all;
  nodes = λ i q h. let p = b.nodes i q h in let w = p.2 in let z : q ≡ suc p.0 = omega (arith, w) in (p.0, p.1, z, p.3, p.4);
  found = λ j h. let p = b.found j h in let z : 1 + j ≡ suc j = omega arith in (p.0, p.1 ∙ ap (λ x. Some (Some x)) z);
  once = b.once;
}) a

pub script_numbers : (n : Tree) → lined n script ≡ true → NumbersRows n
script_numbers n l = numbers_rows n (rows_at n script 1) (sym (script_rows n l)) (node_numbers script n 1 l)
