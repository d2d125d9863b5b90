-- Offsets in a list, and as a set.
use Rattle.std.proofs.Common.{◌≡◌, ℕ, suc, ◌+◌, ◌<◌, ◌≤◌, Bool, true, false, cond, List, [], ◌∷◌, ◌++◌, length, get_or, drop, Some, refl, sym, ap, ◌∙◌, add-one, append-nil, append_assoc, eqb-true}
use Rattle.std.specs.Prelude.{◌||◌, nat_eq, nat_lt, slice_get}
use Rattle.std.specs.BTreeSet.{insert_key}
use Rattle.std.specs.List.{list_any}
use Rattle.std.specs.Ordering.{match_ordering, nat_cmp}
use Rattle.std.specs.declared.cmp.Ordering.TheVariants.{Less, Equal, Greater}
use Rattle.std.proofs.Math.Seq.{drop-cons}
use Rattle.std.proofs.lemmas.List.{drop_all}
use Rattle.std.proofs.lemmas.Option.{get_or_from_slice_get, slice_get_within}
use Rattle.tree.specs.Tree.{Tree}
use Rattle.rules.specs.LeftAlone.{all_starts, starts_of}
use Rattle.rules.specs.declared.left_alone.LeftAlone.{LeftAlone}

or-same : (a b : Bool) → (a || b) ≡ (a || (a || b))
or-same true b = refl
or-same false b = refl

or-swap : (a b c : Bool) → (a || (b || c)) ≡ (b || (a || c))
or-swap true true c = refl
or-swap true false c = refl
or-swap false b c = refl

or-assoc : (a b c : Bool) → ((a || b) || c) ≡ (b || (a || c))
or-assoc true true c = refl
or-assoc true false c = refl
or-assoc false b c = refl

inserted-by : (n k x : ℕ) (xs rest : List ℕ) (b e : Bool) → (e ≡ true → k ≡ x) → list_any (nat_eq n) rest ≡ (nat_eq n k || list_any (nat_eq n) xs)
    → list_any (nat_eq n) (match_ordering (cond b Less (cond e Equal Greater)) (k ∷ x ∷ xs) (x ∷ xs) (x ∷ rest)) ≡ (nat_eq n k || (nat_eq n x || list_any (nat_eq n) xs))
inserted-by n k x xs rest true e h so = refl
inserted-by n k x xs rest false true h so = or-same (nat_eq n x) (list_any (nat_eq n) xs) ∙ ap (λ y. nat_eq n y || (nat_eq n x || list_any (nat_eq n) xs)) (sym (h refl))
inserted-by n k x xs rest false false h so = ap (λ b. nat_eq n x || b) so ∙ or-swap (nat_eq n x) (nat_eq n k) (list_any (nat_eq n) xs)

-- one more number in a set
inserted : (n k : ℕ) (ks : List ℕ) → list_any (nat_eq n) (insert_key nat_cmp ks k) ≡ (nat_eq n k || list_any (nat_eq n) ks)
inserted n k [] = refl
inserted n k (x ∷ xs) = inserted-by n k x xs (insert_key nat_cmp xs k) (nat_lt k x) (nat_eq k x) (λ e. eqb-true k x e) (inserted n k xs)

-- a turn of the loop that makes a set
pub set-turn : (xs : List ℕ) (i d : ℕ) (old new : List ℕ) → i < length xs → new ≡ insert_key nat_cmp old (get_or xs i d)
    → ((n : ℕ) → (list_any (nat_eq n) old || list_any (nat_eq n) (drop i xs)) ≡ list_any (nat_eq n) xs)
    → (n : ℕ) → (list_any (nat_eq n) new || list_any (nat_eq n) (drop (i + 1) xs)) ≡ list_any (nat_eq n) xs
set-turn xs i d old new l e so n =
    let rest = list_any (nat_eq n) (drop (suc i) xs) in
    rw (add-one i) (ap (λ ks. list_any (nat_eq n) ks || rest) e ∙ ap (λ b. b || rest) (inserted n (get_or xs i d) old) ∙ or-assoc (nat_eq n (get_or xs i d)) (list_any (nat_eq n) old) rest
    ∙ ap (λ ys. list_any (nat_eq n) old || list_any (nat_eq n) ys) (sym (drop-cons xs i d l)) ∙ so n)

or-nothing : (b : Bool) → (b || false) ≡ b
or-nothing true = refl
or-nothing false = refl

pub set-end : (xs : List ℕ) (i : ℕ) (keys : List ℕ) → length xs ≤ i → ((n : ℕ) → (list_any (nat_eq n) keys || list_any (nat_eq n) (drop i xs)) ≡ list_any (nat_eq n) xs)
    → (n : ℕ) → list_any (nat_eq n) keys ≡ list_any (nat_eq n) xs
set-end xs i keys l so n = sym (or-nothing (list_any (nat_eq n) keys)) ∙ ap (λ ys. list_any (nat_eq n) keys || list_any (nat_eq n) ys) (sym (drop_all i xs l)) ∙ so n

-- a turn of the loop over the nodes, and its end
pub starts-turn : (why : LeftAlone) (ts : List Tree) (i : ℕ) (t : Tree) (acc new total : List ℕ) → slice_get ts i ≡ Some t → new ≡ acc ++ starts_of why t → acc ++ all_starts why (drop i ts) ≡ total
    → new ++ all_starts why (drop (i + 1) ts) ≡ total
starts-turn why ts i t acc new total e n so =
    rw (add-one i) (ap (λ a. a ++ all_starts why (drop (suc i) ts)) n ∙ append_assoc acc (starts_of why t) (all_starts why (drop (suc i) ts))
    ∙ ap (λ u. acc ++ (starts_of why u ++ all_starts why (drop (suc i) ts))) (sym (get_or_from_slice_get ts i t t e)) ∙ ap (λ us. acc ++ all_starts why us) (sym (drop-cons ts i t (slice_get_within ts i t e))) ∙ so)

pub starts-end : (why : LeftAlone) (ts : List Tree) (i : ℕ) (acc total : List ℕ) → length ts ≤ i → acc ++ all_starts why (drop i ts) ≡ total → acc ≡ total
starts-end why ts i acc total l so = sym (append-nil acc) ∙ ap (λ us. acc ++ all_starts why us) (sym (drop_all i ts l)) ∙ so
