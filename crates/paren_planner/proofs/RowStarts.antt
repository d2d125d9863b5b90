-- Where the rows of a derived script start, by the numbers that its nodes hold: where the nodes with rows start, by their positions.
use Rattle.std.proofs.Common.{◌≡◌, ℕ, zero, suc, ◌≤◌, ◌<◌, Bool, true, false, cond, List, [], ◌∷◌, length, refl, sym, ap, ap₂, ◌∙◌, arith, length-append, Option, Some, None, is_some}
use Rattle.std.specs.Prelude.{map, nat_eq, nat_lt, get_or, slice_get}
use Rattle.std.proofs.lemmas.Bool.Decides.{nat_tests}
use Rattle.std.proofs.lemmas.List.{get_or_past}
use Rattle.std.proofs.lemmas.List.FromFn.{length-map-range_with_len, get_or-map-range_with_len}
use Rattle.std.proofs.lemmas.Option.{slice_get_within}
use Rattle.tree.specs.declared.kind.Pair.{Pair}
use Rattle.tree.specs.Tree.{Tree, node, Parts, none, part, gap, start_of, node_total, parts_total}
use Rattle.tree.specs.Flat.{post_order}
use Rattle.tree.specs.NodeUses.{rows_of}
use Rattle.language.specs.declared.Rank.TheVariants.{Expression}
use Rattle.language.specs.declared.Start.TheVariants.{Any}
use Rattle.language.specs.Pieces.{Role, expr, script}
use Rattle.language.specs.Grammar.{ways}
use Rattle.language.specs.RowPositions.{first_roles}
use Rattle.language.specs.Claims.{row_nodes, parts_row_nodes}
use Rattle.language.specs.declared.Language.{Language}
use Rattle.language.specs.Languages.{Seen, seen_in}
use Rattle.language.specs.Places.{NextIn}
use Rattle.language.specs.Token.{Token}
use Rattle.language.specs.Cost.{AtMost, at_most}
use Rattle.language.proofs.table.Alike.{same}
use Rattle.language.proofs.lower_bound.LowerBound.{at_least}
use Rattle.tokens.specs.Reading.{any_goal}
use Rattle.row_laws.specs.Laws.{NumbersRows}
use Rattle.row_laws.specs.Lined.{lined}
use Rattle.row_laws.proofs.FirstWayRows.{spelled_lined}
use Rattle.paren_planner.specs.PairNodes.{SpellsAll}
use Rattle.row_laws.proofs.RowNumbers.{script_numbers}
use Rattle.spellings.specs.Groupings.{holds_row, start_among, row_start, row_starts, row_after}

-- Of lists that are alike up to zeros behind them, the same row starts behind a place.

never_before : (k : ℕ) → nat_lt k 0 ≡ false
never_before k = grind (arith, nat_tests)

same_row : (xs ys : List ℕ) (k r : ℕ) → ((i : ℕ) → get_or xs i 0 ≡ get_or ys i 0) → row_after xs k r ≡ row_after ys k r
same_row [] [] k r h = refl
same_row [] (y ∷ ys) k r h = same_row [] ys k (suc r) (λ i. h (suc i)) ∙ sym (ap (λ z. cond (nat_lt k z) r (row_after ys k (suc r))) (sym (h 0)) ∙ ap (λ b. cond b r (row_after ys k (suc r))) (never_before k))
same_row (x ∷ xs) [] k r h = ap (λ z. cond (nat_lt k z) r (row_after xs k (suc r))) (h 0) ∙ ap (λ b. cond b r (row_after xs k (suc r))) (never_before k) ∙ same_row xs [] k (suc r) (λ i. h (suc i))
same_row (x ∷ xs) (y ∷ ys) k r h = ap₂ (λ z u. cond (nat_lt k z) r u) (h 0) (same_row xs ys k (suc r) (λ i. h (suc i)))

-- Where the row with a number starts among nodes

-- a node that doesn't hold it
other : (q : Option ℕ) (r s t : ℕ) → (Some q ≡ Some (Some (suc r)) → ⊥) → cond (holds_row q (suc r)) s t ≡ t
other None r s t h = refl
other (Some k) r s t h = of (nat_eq k (suc r)) refl
  where
    of : (b : Bool) → nat_eq k (suc r) ≡ b → cond b s t ≡ t
    of true e = let same : k ≡ suc r = grind (arith, nat_tests, e) in absurd (h (ap (λ x. Some (Some x)) same))
    of false e = refl

-- where no node holds it
held_by_none : (qs : List (Option ℕ)) (ns : List Tree) (r s : ℕ) → ((j : ℕ) → slice_get qs j ≡ Some (Some (suc r)) → ⊥) → start_among qs ns (suc r) s ≡ s
held_by_none [] ns r s h = refl
held_by_none (q ∷ qs) [] r s h = refl
held_by_none (q ∷ qs) (n ∷ ns) r s h = held_by_none qs ns r (cond (holds_row q (suc r)) (start_of n) s) (λ j. h (suc j)) ∙ other q r (start_of n) s (h 0)

-- where one node holds it
held_by_one : (qs : List (Option ℕ)) (ns : List Tree) (i r s : ℕ) (m : Tree) → slice_get qs i ≡ Some (Some (suc r)) → slice_get ns i ≡ Some m → ((j : ℕ) → slice_get qs j ≡ Some (Some (suc r)) → i ≡ j) →
    start_among qs ns (suc r) s ≡ start_of m
held_by_one [] ns i r s m e f u = absurd (cc)
held_by_one (q ∷ qs) [] i r s m e f u = absurd (cc)
held_by_one (q ∷ qs) (n ∷ ns) zero r s m e f u =
    let a : q ≡ Some (suc r) = cc in
    let b : n ≡ m = cc in
    let same : nat_eq (suc r) (suc r) ≡ true = grind (arith, nat_tests) in
    held_by_none qs ns r (cond (holds_row q (suc r)) (start_of n) s) (λ j g. let z = u (suc j) g in omega (arith, z))
    ∙ ap₂ (λ x y. cond (holds_row x (suc r)) (start_of y) s) a b ∙ ap (λ x. cond x (start_of m) s) same
held_by_one (q ∷ qs) (n ∷ ns) (suc i) r s m e f u = held_by_one qs ns i r (cond (holds_row q (suc r)) (start_of n) s) m e f (λ j g. let z = u (suc j) g in omega (arith, z))

-- a row's place in the list of all
listed : (n : Tree) (r : ℕ) → r < node_total n → get_or (row_starts n) r 0 ≡ row_start n (suc r)
listed n r h = get_or-map-range_with_len (row_start n) 1 (node_total n) r (suc r) 0 h (omega arith)

-- Starts of nodes

start_at : (ns : List Tree) (r : ℕ) (m : Tree) → slice_get ns r ≡ Some m → get_or (map start_of ns) r 0 ≡ start_of m
start_at [] r m h = absurd (cc)
start_at (n ∷ ns) zero m h = let e : n ≡ m = cc in ap start_of e
start_at (n ∷ ns) (suc r) m h = start_at ns r m h

no_start : (ns : List Tree) (r : ℕ) → length ns ≤ r → get_or (map start_of ns) r 0 ≡ 0
no_start [] r h = refl
no_start (n ∷ ns) zero h = absurd (omega (arith, h))
no_start (n ∷ ns) (suc r) h = no_start ns r (omega (arith, h))

-- there are no more rows than nodes
mutual
  unfolding row_nodes parts_row_nodes

  few_rows : (n : Tree) (a : Role) → length (row_nodes n a) ≤ node_total n
  few_rows (node k w g s e ps) (expr y i f) = let h = few_in_parts ps (first_roles (ways (expr Expression true Any) (node k w g s e ps))) in omega (arith, h)
  few_rows (node k w g s e ps) a = let h = few_in_parts ps (first_roles (ways a (node k w g s e ps))) in omega (arith, h)

  few_in_parts : (ps : Parts) (xs : List Role) → length (parts_row_nodes ps xs) ≤ parts_total ps
  few_in_parts none xs = omega arith
  few_in_parts (gap ps) xs = few_in_parts ps xs
  few_in_parts (part n ps) [] = omega arith
  few_in_parts (part n ps) (a ∷ xs) =
      let h = few_rows n a in
      let l = few_in_parts ps xs in
      let c = length-append (row_nodes n a) (parts_row_nodes ps xs) in
      omega (arith, h, l, c)

-- where its rows are numbered
module _ (n : Tree) (t : NumbersRows n) where
  -- behind the last row
  none_listed : (r : ℕ) → length (row_nodes n script) ≤ r → get_or (row_starts n) r 0 ≡ 0
  none_listed r l = of (nat_lt r (node_total n)) refl
    where
      of : (b : Bool) → nat_lt r (node_total n) ≡ b → get_or (row_starts n) r 0 ≡ 0
      of true h =
          listed n r (grind (arith, nat_tests))
          ∙ held_by_none (rows_of n) (post_order n) r 0 (λ j g. let w = t.nodes j (suc r) g in let c = w.2 in let k = slice_get_within (row_nodes n script) w.0 w.1 w.4 in omega (arith, l, c, k))
      of false h =
          let m : node_total n ≤ r = grind (arith, nat_tests) in
          get_or_past (row_starts n) r 0 (omega (arith, m, length-map-range_with_len (row_start n) 1 (node_total n)))

  starts_alike : (r : ℕ) → get_or (row_starts n) r 0 ≡ get_or (map start_of (row_nodes n script)) r 0
  starts_alike r = of (nat_lt r (length (row_nodes n script))) refl
    where
      of : (b : Bool) → nat_lt r (length (row_nodes n script)) ≡ b → get_or (row_starts n) r 0 ≡ get_or (map start_of (row_nodes n script)) r 0
      of true h =
          let l : r < length (row_nodes n script) = grind (arith, nat_tests) in
          let p = t.found r l in
          let w = t.nodes p.0 (suc r) p.1 in
          let c = w.2 in
          let q : w.0 ≡ r = omega (arith, c) in
          let k = few_rows n script in
          listed n r (omega (arith, l, k)) ∙ held_by_one (rows_of n) (post_order n) p.0 r 0 w.1 p.1 w.3 (λ j g. t.once p.0 j (suc r) p.1 g)
          ∙ sym (start_at (row_nodes n script) r w.1 (ap (slice_get (row_nodes n script)) (sym q) ∙ w.4))
      of false h =
          let l : length (row_nodes n script) ≤ r = grind (arith, nat_tests) in
          none_listed r l ∙ sym (no_start (row_nodes n script) r l)

-- so the first row behind a place is that of the positions
pub row_by_position : (n : Tree) → lined n script ≡ true → (k : ℕ) → row_after (row_starts n) k 1 ≡ row_after (map start_of (row_nodes n script)) k 1
row_by_position n h k = same_row (row_starts n) (map start_of (row_nodes n script)) k 1 (starts_alike n (script_numbers n h))

-- what a text spells in a language has its parts where its first ways name them
some_is : {x : Option ℕ} {m : ℕ} → AtMost x m → is_some x ≡ true
some_is (at_most h) = refl

pub spelled_lined_in : (language : Language) (text : List ℕ) {o : ℕ} {n : Tree} {last : Token} {P : List Pair} → SpellsAll language text o n last P → lined n script ≡ true
spelled_lined_in language text d = spelled_lined Token (Seen Token (NextIn text any_goal) language) (seen_in language) d script same (some_is (at_least Token (Seen Token (NextIn text any_goal) language) (seen_in language) d))
