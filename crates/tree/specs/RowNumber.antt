-- What the four bytes of a node's row say.
use Rattle.std.specs.Prelude.{◌≡◌, ℕ, zero, suc, Option, Some, None, refl}

abbrev pub row_of : ℕ → Option ℕ
row_of zero = None
row_of (suc i) = Some (suc i)

abbrev pub number_of : Option ℕ → ℕ
number_of None = 0
number_of (Some n) = n

pub number_of-row_of : (n : ℕ) → number_of (row_of n) ≡ n
number_of-row_of zero = refl
number_of-row_of (suc i) = refl
