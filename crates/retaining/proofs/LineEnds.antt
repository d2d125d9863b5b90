-- Line ends among bytes, one byte further.
use Rattle.std.proofs.Common.{◌≡◌, ℕ, zero, suc, ◌+◌, ◌<◌, Bool, true, false, ◌||◌, List, [], ◌∷◌, drop, length, refl, subst, arith}
use Rattle.retaining.specs.Retains.{has_line_end}

or_right : (a b : Bool) → b ≡ true → (a || b) ≡ true
or_right true b h = refl
or_right false b h = h

pub ends_further : (bs : List ℕ) (i : ℕ) → i < length bs → has_line_end (drop (i + 1) bs) ≡ true → has_line_end (drop i bs) ≡ true
ends_further [] i l h = absurd (omega arith)
ends_further (c ∷ bs) zero l h = or_right _ _ h
ends_further (c ∷ bs) (suc i) l h =
    let e : suc i + 1 ≡ suc (i + 1) = omega arith in
    ends_further bs i (omega arith) (subst (λ k. has_line_end (drop k (c ∷ bs)) ≡ true) e h)
