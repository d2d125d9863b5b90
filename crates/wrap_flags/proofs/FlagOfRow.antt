-- The flag of a row, by its index.
use Rattle.std.proofs.Common.{◌≡◌, ℕ, zero, suc, ◌-◌, ◌≤◌, Bool, false, List, get_or, ap, arith}
use Rattle.wrap_flags.specs.Flags.{is_flagged}

pub flag_of_row : (bs : List Bool) (r : ℕ) → 1 ≤ r → get_or bs (r - 1) false ≡ is_flagged bs r
flag_of_row bs zero h = absurd (omega (arith, h))
flag_of_row bs (suc i) h = let e : suc i - 1 ≡ i = omega arith in ap (λ j. get_or bs j false) e
