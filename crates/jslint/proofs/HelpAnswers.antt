-- What is said in place of a run.
use Rattle.std.proofs.Common.{◌≡◌, ◌≢◌, ◌⊎◌, ℕ, List, zero, suc, inl, inr, refl, arith}
use Rattle.jslint.specs.Program.{GetsLine, IsKept, Written}

-- what was asked for was shown, or a line says that it wasn't
pub asked_for : (status : ℕ) (line : List ℕ) (errors : Written) → (status ≡ 0 → IsKept errors) → (status ≢ 0 → GetsLine line errors) → (status ≢ 0 → status ≡ 2)
    → ((status ≡ 0) × IsKept errors) ⊎ ((status ≡ 2) × GetsLine line errors)
asked_for zero line errors shown lost two = inl (refl, shown refl)
asked_for (suc n) line errors shown lost two = let other : suc n ≢ 0 = λ e. absurd (omega arith) in inr (two other, lost other)
