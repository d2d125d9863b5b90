-- Bytes that wait, put in by their two ends.
use Rattle.std.proofs.Common.{◌≡◌, ◌≤◌, ◌+◌, ◌-◌, ℕ, zero, suc, List, [], ◌∷◌, ◌++◌, length, take, drop, refl, sym, ap, ◌∙◌, append_assoc, arith, take-append-drop, length-take-le, length-drop, length-append}
use Rattle.std.proofs.Math.Seq.{take-append-add}

take_short : (k n : ℕ) (xs : List ℕ) → k ≤ n → take k (take n xs) ≡ take k xs
take_short zero n xs h = refl
take_short (suc k) zero xs h = absurd (omega (arith, h))
take_short (suc k) (suc n) [] h = refl
take_short (suc k) (suc n) (x ∷ xs) h = ap (λ t. x ∷ t) (take_short k n xs (omega (arith, h)))

take_whole : (n : ℕ) (xs : List ℕ) → length xs ≤ n → take n xs ≡ xs
take_whole zero [] h = refl
take_whole (suc n) [] h = refl
take_whole zero (x ∷ xs) h = absurd (omega (arith, h))
take_whole (suc n) (x ∷ xs) h = ap (λ t. x ∷ t) (take_whole n xs (omega (arith, h)))

-- all from a place on
pub all_from : (k : ℕ) (xs : List ℕ) → take (length xs - k) (drop k xs) ≡ drop k xs
all_from k xs = let l = length-drop k xs in take_whole (length xs - k) (drop k xs) (omega (arith, l))

-- fewer of the first bytes
pub kept : (bytes : List ℕ) (used count : ℕ) → used ≤ length bytes → count ≤ length (take used bytes) → take (used - count) bytes ≡ take (length (take used bytes) - count) (take used bytes)
kept bytes used count h k =
    let l = length-take-le used bytes h in
    let short : used - count ≤ used = omega arith in
    sym (take_short (used - count) used bytes short) ∙ ap (λ n. take (n - count) (take used bytes)) (sym l)

-- the first n bytes, without those that the last n begin with, and the last n
pub ends_meet : (old bytes : List ℕ) (n : ℕ) → n ≤ length bytes → length bytes ≤ n + n →
    take (length (old ++ take n bytes) - (n - (length bytes - n))) (old ++ take n bytes) ++ drop (length bytes - n) bytes ≡ old ++ bytes
ends_meet old bytes n h k =
    let k' = length bytes - n in
    let l = length-take-le n bytes h in
    let a = length-append old (take n bytes) in
    let e : length (old ++ take n bytes) - (n - k') ≡ length old + k' = omega (arith, l, a, h, k) in
    let within : k' ≤ n = omega (arith, h, k) in
    ap (λ m. take m (old ++ take n bytes) ++ drop k' bytes) e
    ∙ ap (λ t. t ++ drop k' bytes) (take-append-add old (take n bytes) k' ∙ ap (λ t. old ++ t) (take_short k' n bytes within))
    ∙ append_assoc old (take k' bytes) (drop k' bytes) ∙ ap (λ t. old ++ t) (take-append-drop k' bytes)
