-- Two texts from a place on, by their bytes there.
use Rattle.std.proofs.Common.{◌≡◌, ℕ, zero, suc, ◌<◌, ◌+◌, Bool, true, List, [], ◌∷◌, length, drop, refl, ap, ◌∙◌, arith}
use Rattle.std.specs.Prelude.{◌&&◌, nat_eq, slice_index_or}
use Rattle.std.specs.Str.{bytes_eq}
use Rattle.std.proofs.lemmas.List.{drop_more}
use Rattle.std.proofs.lemmas.Bool.Decides.{nat_tests}

both_at : (a b : List ℕ) (i : ℕ) → i < length a → i < length b →
    bytes_eq (drop i a) (drop i b) ≡ (nat_eq (slice_index_or a i 0) (slice_index_or b i 0) && bytes_eq (drop (i + 1) a) (drop (i + 1) b))
both_at a b i h k = ap (λ v. bytes_eq v (drop i b)) (drop_more a i 0 h) ∙ ap (bytes_eq (slice_index_or a i 0 ∷ drop (i + 1) a)) (drop_more b i 0 k)

same_byte : (x y : ℕ) → x ≡ y → nat_eq x y ≡ true
same_byte x y e = grind (arith, nat_tests)

-- one byte stands there in both: what follows tells
pub same_at : (a b : List ℕ) (i : ℕ) → i < length a → i < length b → slice_index_or a i 0 ≡ slice_index_or b i 0 → bytes_eq (drop i a) (drop i b) ≡ bytes_eq (drop (i + 1) a) (drop (i + 1) b)
same_at a b i h k e = both_at a b i h k ∙ ap (λ c. c && bytes_eq (drop (i + 1) a) (drop (i + 1) b)) (same_byte (slice_index_or a i 0) (slice_index_or b i 0) e)

-- both end there
pub same_to_end : (a b : List ℕ) (n : ℕ) → length a ≡ n → length b ≡ n → bytes_eq (drop n a) (drop n b) ≡ true
same_to_end [] [] n h k = ends n
  where
    ends : (n : ℕ) → bytes_eq (drop n []) (drop n []) ≡ true
    ends zero = refl
    ends (suc n) = refl
same_to_end [] (y ∷ b) n h k = cc
same_to_end (x ∷ a) [] n h k = cc
same_to_end (x ∷ a) (y ∷ b) zero h k = cc
same_to_end (x ∷ a) (y ∷ b) (suc n) h k = same_to_end a b n (omega arith) (omega arith)

-- what is found of copies holds of what was copied
pub same_both : {a b v w : List ℕ} {r : Bool} → a ≡ v → b ≡ w → r ≡ bytes_eq a b → r ≡ bytes_eq v w
same_both {a} {b} {v} {w} e f h = h ∙ ap (λ x. bytes_eq x b) e ∙ ap (bytes_eq v) f
