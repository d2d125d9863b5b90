-- Numbers in order.
use Rattle.std.proofs.Common.{◌≡◌, ℕ, zero, suc, ◌<◌, ◌≤◌, leb, true, false, List, [], ◌∷◌, length, get_or, take, cond, Ok, Err, Result, refl, sym, ap, ◌∙◌, subst, arith, ◌⊎◌, inl, inr}
use Rattle.std.specs.Prelude.{nat_eq}
use Rattle.std.specs.Result.{is_ok}
use Rattle.std.specs.Ordering.{nat_cmp}
use Rattle.std.specs.List.Sorted.{IsNonDecreasing, IsPartitionPoint, IsBinarySearchResult}
use Rattle.std.proofs.lemmas.Bool.{cases_lt}
use Rattle.std.proofs.lemmas.Bool.Decides.{nat_tests}
use Rattle.std.proofs.lemmas.List.Sorted.{searched}
use Rattle.std.proofs.lemmas.List.Folds.{list_any_at, list_any_none}
use Rattle.pattern_analysis.specs.UselessReferences.{is_among, up_to}

abbrev Point : ℕ → List ℕ → ℕ → Type 0
Point last numbers i = IsPartitionPoint (λ n. leb n last ≡ true) (λ n. leb n last ≡ false) numbers i

taken_up_to : (last : ℕ) (numbers : List ℕ) (i : ℕ) → Point last numbers i → take i numbers ≡ up_to last numbers
taken_up_to last [] zero p = refl
taken_up_to last [] (suc i) p = refl
taken_up_to last (n ∷ numbers) zero p =
    taken_up_to last numbers zero ((λ k d m r. absurd (omega (arith, r))), (λ k d m r. p.1 (suc k) d (omega arith) (omega (arith, r))))
    ∙ sym (ap (λ b. cond b (n ∷ up_to last numbers) (up_to last numbers)) (p.1 zero n (omega arith) (omega arith)))
taken_up_to last (n ∷ numbers) (suc i) p =
    ap (λ ns. n ∷ ns) (taken_up_to last numbers i ((λ k d m r. p.0 (suc k) d (omega arith) (omega (arith, r))), (λ k d m r. p.1 (suc k) d (omega (arith, m)) (omega (arith, r)))))
    ∙ sym (ap (λ b. cond b (n ∷ up_to last numbers) (up_to last numbers)) (p.0 zero n (omega arith) (omega arith)))

equal : (n k : ℕ) → k ≡ n → nat_eq n k ≡ true
equal n k e = grind (arith, nat_tests)

smaller : (n k : ℕ) → k < n → nat_eq n k ≡ false
smaller n k l = grind (arith, nat_tests)

greater : (n k : ℕ) → n < k → nat_eq n k ≡ false
greater n k l = grind (arith, nat_tests)

missed : (n i k : ℕ) (numbers : List ℕ) → ((k : ℕ) → k < i → get_or numbers k 0 < n) → ((k : ℕ) → i ≤ k → k < length numbers → n < get_or numbers k 0) → k < length numbers →
    (k < i) ⊎ (i ≤ k) → nat_eq n (get_or numbers k 0) ≡ false
missed n i k numbers low high l (inl s) = smaller n (get_or numbers k 0) (low k s)
missed n i k numbers low high l (inr s) = greater n (get_or numbers k 0) (high k s l)

pub found : (n : ℕ) (numbers : List ℕ) (r : Result ℕ ℕ) → IsBinarySearchResult (λ y. nat_cmp y n) numbers r → IsNonDecreasing numbers → is_ok r ≡ is_among n numbers
found n numbers (Ok i) h up =
    let at = searched numbers n (Ok i) h (λ i j l m. up i j 0 l m) in
    sym (list_any_at (nat_eq n) numbers i 0 at.0 (equal n (get_or numbers i 0) at.1))
found n numbers (Err i) h up =
    let parted = searched numbers n (Err i) h (λ i j l m. up i j 0 l m) in
    sym (list_any_none (nat_eq n) numbers (λ k d l. none k d l (missed n i k numbers parted.1 parted.2 l (cases_lt k i)))) where
      none : (k d : ℕ) → k < length numbers → nat_eq n (get_or numbers k 0) ≡ false → nat_eq n (get_or numbers k d) ≡ false
      none k d l e = ap (nat_eq n) (other numbers k d l) ∙ e where
        other : (xs : List ℕ) (k d : ℕ) → k < length xs → get_or xs k d ≡ get_or xs k 0
        other [] k d l = absurd (omega (arith, l))
        other (x ∷ xs) zero d l = refl
        other (x ∷ xs) (suc k) d l = other xs k d (omega (arith, l))

pub taken_of : (last : ℕ) (numbers read : List ℕ) (i : ℕ) → read ≡ numbers → (IsNonDecreasing read → Point last read i) → IsNonDecreasing numbers → take i numbers ≡ up_to last numbers
taken_of last numbers read i e h up = taken_up_to last numbers i (subst (λ x. IsNonDecreasing x → Point last x i) e h up)
