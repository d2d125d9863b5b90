-- Natural numbers as limbs of 64 binary digits, the lowest first.
use Rattle.std.specs.Prelude.{◌≡◌, ℕ, zero, suc, ◌+◌, ◌*◌, ◌^◌, ◌≤◌, List, slice_index}

-- what a 1 in a limb counts
unfoldable pub limb_weight : ℕ → ℕ
limb_weight i = (2 ^ 64) ^ i

-- the number of the first limbs
unfoldable pub value_below : List ℕ → ℕ → ℕ
value_below limbs zero = 0
value_below limbs (suc i) = value_below limbs i + slice_index limbs i * limb_weight i

-- each limb from a place on is 0
abbrev pub AreZeroFrom : List ℕ → ℕ → Type 0
AreZeroFrom limbs n = (i : ℕ) → n ≤ i → slice_index limbs i ≡ 0
