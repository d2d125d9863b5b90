-- The loop that sets where rows start, node by node.
use Rattle.std.proofs.Common.{◌≡◌, ℕ, zero, suc, ◌<◌, ◌≤◌, cond, List, [], ◌∷◌, length, Option, Some, slice_get, slice_index, drop, refl, sym, ap₂, ◌∙◌, arith}
use Rattle.std.proofs.lemmas.List.{ext_get_or}
use Rattle.std.proofs.lemmas.List.FromFn.{length-map-range_with_len, get_or-map-range_with_len}
use Rattle.tree.specs.Tree.{Tree, start_of, node_total}
use Rattle.spellings.specs.Groupings.{holds_row, start_among, row_start, row_starts}

-- a node's turn
pub starts_turn : (qs : List (Option ℕ)) (ns : List Tree) (r s i : ℕ) (q : Option ℕ) (n : Tree) → slice_get qs i ≡ Some q → slice_get ns i ≡ Some n →
    start_among (drop (suc i) qs) (drop (suc i) ns) r (cond (holds_row q r) (start_of n) s) ≡ start_among (drop i qs) (drop i ns) r s
starts_turn [] ns r s i q n e f = absurd (cc)
starts_turn (x ∷ qs) [] r s i q n e f = absurd (cc)
starts_turn (x ∷ qs) (m ∷ ns) r s zero q n e f =
    let u : q ≡ x = cc in
    let v : n ≡ m = cc in
    ap₂ (λ a b. start_among qs ns r (cond (holds_row a r) (start_of b) s)) u v
starts_turn (x ∷ qs) (m ∷ ns) r s (suc i) q n e f = starts_turn qs ns r s i q n e f

-- no node is left
pub starts_end : (qs : List (Option ℕ)) (ns : List Tree) (r s i : ℕ) → length ns ≤ i → start_among (drop i qs) (drop i ns) r s ≡ s
starts_end [] ns r s zero l = refl
starts_end (x ∷ qs) [] r s zero l = refl
starts_end (x ∷ qs) (m ∷ ns) r s zero l = absurd (omega (arith, l))
starts_end [] ns r s (suc i) l = refl
starts_end (x ∷ qs) [] r s (suc i) l = without (drop i qs)
  where
    without : (xs : List (Option ℕ)) → start_among xs [] r s ≡ s
    without [] = refl
    without (y ∷ xs) = refl
starts_end (x ∷ qs) (m ∷ ns) r s (suc i) l = starts_end qs ns r s i (omega (arith, l))

-- a list with each row's start is that of all
pub are_starts : (n : Tree) (ss : List ℕ) → length ss ≡ node_total n → ((i : ℕ) → i < node_total n → slice_index ss i ≡ row_start n (suc i)) → ss ≡ row_starts n
are_starts n ss l h =
    ext_get_or 0 ss (row_starts n) (l ∙ sym (length-map-range_with_len (row_start n) 1 (node_total n)))
    (λ i w. let v : i < node_total n = omega (arith, w, l) in h i v ∙ sym (get_or-map-range_with_len (row_start n) 1 (node_total n) i (suc i) 0 v (omega arith)))
