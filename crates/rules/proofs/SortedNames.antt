-- What a search in names that are sorted finds.
use Rattle.std.proofs.Common.{◌≡◌, ℕ, zero, suc, ◌<◌, ◌≤◌, Bool, true, false, not, List, [], ◌∷◌, Bor, map, length, get_or, refl, sym, ap, subst, ◌∙◌, add-one, arith, inl, inr, ◌⊎◌}
use Rattle.std.specs.Prelude.{◌&&◌, Result, Ok, Err, is_ok}
use Rattle.std.specs.List.{list_any}
use Rattle.std.specs.Str.{bytes_eq}
use Rattle.std.specs.List.Sorted.{IsSortedBy, IsSearchInRange, IsBinarySearchResult}
use Rattle.std.specs.Cmp.Lexicographic.{slice_cmp, nat_list_eq_equiv}
use Rattle.std.specs.Ordering.{is_lt, is_eq, nat_cmp}
use Rattle.std.specs.declared.cmp.Ordering.{Ordering}
use Rattle.std.specs.declared.cmp.Ordering.TheVariants.{Less, Equal, Greater}
use Rattle.std.proofs.lemmas.Bool.{cases_lt, false≢true}
use Rattle.std.proofs.lemmas.Cmp.{nat_list_cmp_total}
use Rattle.std.proofs.lemmas.List.Sorted.{searchable_from_sorted}
use Rattle.std.proofs.lemmas.List.Folds.{list_any_at, list_any_none}
use Rattle.std.proofs.lemmas.Map.Text.{is_eq-slice_cmp}
use Rattle.rules.specs.NameOrder.{is_sorted}

first_passes : (a b : Bool) → (not a && b) ≡ true → a ≡ false
first_passes true b h = absurd (false≢true h)
first_passes false b h = refl

rest_passes : (a b : Bool) → (a && b) ≡ true → b ≡ true
rest_passes true b h = h
rest_passes false b h = absurd (false≢true h)

neighbours_sorted : (xs : List (Bor (List ℕ))) → is_sorted (map (λ n. n.now) xs) ≡ true → (k : ℕ) (d : Bor (List ℕ)) → suc k < length xs → is_lt (slice_cmp nat_cmp (get_or xs (suc k) d).now (get_or xs k d).now) ≡ false
neighbours_sorted [] up k d l = absurd (omega arith)
neighbours_sorted (x ∷ []) up k d l = absurd (omega arith)
neighbours_sorted (x ∷ y ∷ rest) up zero d l = first_passes (is_lt (slice_cmp nat_cmp y.now x.now)) (is_sorted (map (λ n. n.now) (y ∷ rest))) up
neighbours_sorted (x ∷ y ∷ rest) up (suc k) d l = neighbours_sorted (y ∷ rest) (rest_passes (not (is_lt (slice_cmp nat_cmp y.now x.now))) (is_sorted (map (λ n. n.now) (y ∷ rest))) up) k d (omega arith)

sorted : (xs : List (Bor (List ℕ))) → is_sorted (map (λ n. n.now) xs) ≡ true → IsSortedBy (λ (a b : Bor (List ℕ)). is_lt (slice_cmp nat_cmp a.now b.now)) xs
sorted xs up k d a b = subst (λ n. is_lt (slice_cmp nat_cmp (get_or xs n d).now (get_or xs k d).now) ≡ false) (sym (add-one k)) (neighbours_sorted xs up k d (omega arith))

same : (name known : List ℕ) (o : Ordering) → slice_cmp nat_cmp known name ≡ o → bytes_eq name known ≡ is_eq o
same name known o h = nat_list_eq_equiv.symm name known ∙ sym (is_eq-slice_cmp known name) ∙ ap is_eq h

module _ (name : List ℕ) (xs : List (Bor (List ℕ))) (i : ℕ) where
  -- where no element is the name's, none passes the test
  missed : ((k : ℕ) (d : Bor (List ℕ)) → 0 ≤ k → k < i → slice_cmp nat_cmp (get_or xs k d).now name ≡ Less) → ((k : ℕ) (d : Bor (List ℕ)) → i ≤ k → k < length xs → slice_cmp nat_cmp (get_or xs k d).now name ≡ Greater)
      → (k : ℕ) (d : Bor (List ℕ)) → k < length xs → (k < i) ⊎ (i ≤ k) → bytes_eq name (get_or xs k d).now ≡ false
  missed low high k d l (inl s) = same name (get_or xs k d).now Less (low k d (omega arith) s)
  missed low high k d l (inr s) = same name (get_or xs k d).now Greater (high k d s l)

-- a search by order tests for the same bytes
pub found : (name : List ℕ) (xs : List (Bor (List ℕ))) (r : Result ℕ ℕ) → is_sorted (map (λ n. n.now) xs) ≡ true → IsSearchInRange r (length xs) → IsBinarySearchResult (λ (y : Bor (List ℕ)). slice_cmp nat_cmp y.now name) xs r
    → is_ok r ≡ list_any (λ (known : Bor (List ℕ)). bytes_eq name known.now) xs
found name [] (Ok i) up l h = absurd (omega (arith, l))
found name (x ∷ xs) (Ok i) up l h = sym (list_any_at (λ (known : Bor (List ℕ)). bytes_eq name known.now) (x ∷ xs) i x l (same name (get_or (x ∷ xs) i x).now Equal (h x)))
found name xs (Err i) up l h =
    let parted = h (searchable_from_sorted nat_list_cmp_total (λ (n : Bor (List ℕ)). n.now) xs name (sorted xs up)) in
    sym (list_any_none (λ (known : Bor (List ℕ)). bytes_eq name known.now) xs (λ k d b. missed name xs i parted.0 parted.1 k d b (cases_lt k i)))
