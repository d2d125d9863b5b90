-- The flags of rows that are asked one after the other.
use Rattle.std.proofs.Common.{◌≡◌, refl, ℕ, zero, suc, Bool, false, List, [], ◌∷◌, get_or, drop}
use Rattle.printer.specs.Sheets.{flag_at, other_flags}

pub flag_is : (bs : List Bool) (i : ℕ) → flag_at bs i ≡ get_or bs i false
flag_is [] i = refl
flag_is (b ∷ bs) zero = refl
flag_is (b ∷ bs) (suc i) = flag_is bs i

pub others_are : (bs : List Bool) → drop 1 bs ≡ other_flags bs
others_are [] = refl
others_are (b ∷ bs) = refl
