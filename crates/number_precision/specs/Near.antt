-- Between which numbers a float lies, in whole numbers.
use Rattle.std.specs.Prelude.{ℕ, ◌+◌, ◌-◌, ◌*◌, ◌^◌, Bool, ◌&&◌, nat_le, nat_lt}

-- `is_rounded` of the number value × 2 ^ twos / 2 ^ 1074
abbrev pub is_near : (digits tens tenths value twos : ℕ) → Bool
is_near digits tens tenths value twos =
    nat_le ((2 * digits - 1) * 10 ^ tens * 2 ^ 1074) (2 * value * 2 ^ twos * 10 ^ tenths)
    && nat_lt (2 * value * 2 ^ twos * 10 ^ tenths) ((2 * digits + 1) * 10 ^ tens * 2 ^ 1074)
