-- Whether the value of a NumericLiteral is lost where it is rounded to a Number (ECMA-262, 13th edition, 12.9.3.3 and 6.1.6.1: binary64 of IEEE 754, ties to
-- even): whether that Number, written with as many digits, isn't the literal.
use Rattle.std.specs.Prelude.{ℕ, ◌+◌, ◌-◌, ◌*◌, ◌^◌, ◌%◌, ◌==◌, Bool, false, not, ◌&&◌, ◌||◌, nat_le, nat_lt, List, [], ◌∷◌, ◌++◌, length, drop, slice_index, if◌then◌else◌}
use Rattle.std.specs.Char.{digit_value}
use Rattle.std.specs.Float.{Float, binary64, fin}
use Rattle.std.specs.Float.Ieee.{up as twos, down as halves}
use Rattle.std.specs.Float.Numeral.{Parts, nearest_float, scan_numeral, tens_up, tens_down}
use Rattle.std.specs.Str.Parse.{digits_value}
use Rattle.tokens.specs.Alphabet.{one_of}
use Rattle.number_precision.specs.Digits.{trimmed, without_separators, without_zeros}

-- DecimalLiteral: `scan_numeral` reads its parts, and `nearest_float` is the Number nearest to its MV

-- digits from the first on that isn't zero
abbrev pub counted : Parts → List ℕ
counted p = without_zeros (p.whole ++ p.fraction)

-- those that say something: zeros at the end do only behind a point
abbrev pub significant_of : Bool → List ℕ → List ℕ
significant_of point digits = if point then digits else trimmed digits

abbrev pub significant : Parts → List ℕ
significant p = significant_of p.point (counted p)

-- The number digits × 10 ^ tens / 10 ^ tenths is what a Number is, rounded to so many digits: that lies at most half a unit of the last digit below it, or
-- less than half a unit above it (`toPrecision` rounds up, 21.1.3.5).
abbrev pub is_rounded : (digits tens tenths : ℕ) → Float → Bool
is_rounded digits tens tenths (fin negative m e) =
    nat_le ((2 * digits - 1) * 10 ^ tens * halves e) (2 * m * twos e * 10 ^ tenths)
    && nat_lt (2 * m * twos e * 10 ^ tenths) ((2 * digits + 1) * 10 ^ tens * halves e)
is_rounded digits tens tenths _ = false

-- a Number as a literal with these parts
abbrev pub is_kept : Parts → Float → Bool
is_kept p value = is_rounded (digits_value 10 (significant p)) (tens_up p + (length (counted p) - length (significant p))) (tens_down p) value

-- More than a hundred digits are more than `toPrecision` writes.
abbrev pub loses_decimal : Parts → Bool
loses_decimal p = nat_lt 100 (length (significant p)) || not (is_kept p (nearest_float binary64 false p))

-- BinaryIntegerLiteral, OctalIntegerLiteral, HexIntegerLiteral: a digit stands for so many binary digits

-- the binary digits of a digit, from the first 1 on
abbrev pub digit_length : ℕ → ℕ
digit_length v = if nat_le 8 v then 4 else if nat_le 4 v then 3 else if nat_le 2 v then 2 else v

-- its zeros behind the last 1
abbrev pub digit_zeros : ℕ → ℕ
digit_zeros v = if v % 2 == 1 then 0 else if v % 4 == 2 then 1 else if v % 8 == 4 then 2 else 3

-- how many binary digits there are from the first 1 on, and how many of them are zeros at the end
abbrev pub binary_length : ℕ → List ℕ → ℕ
binary_length bits [] = 0
binary_length bits (c ∷ cs) = digit_length (digit_value c) + bits * length cs

abbrev pub last_zeros : List ℕ → ℕ
last_zeros [] = 0
last_zeros (c ∷ cs) = digit_zeros (digit_value (slice_index (c ∷ cs) (length cs)))

abbrev pub binary_zeros : ℕ → List ℕ → ℕ
binary_zeros bits digits = bits * (length digits - length (trimmed digits)) + last_zeros (trimmed digits)

-- A Number has at most 53 binary digits, zeros at the end aside, and is below 2 ^ 1024.
abbrev pub loses_binary : ℕ → List ℕ → Bool
loses_binary bits digits =
    nat_lt 1024 (binary_length bits (without_zeros digits))
    || nat_lt 53 (binary_length bits (without_zeros digits) - binary_zeros bits (without_zeros digits))

-- NumericLiteral

-- how many binary digits a digit behind `0` and this letter stands for; 0 of another character
abbrev pub bits_of : ℕ → ℕ
bits_of c = if one_of "bB" c then 1 else if one_of "oO" c then 3 else if one_of "xX" c then 4 else 0

abbrev pub loses : List ℕ → Bool
loses text = if nat_lt 0 (bits_of (slice_index text 1)) then loses_binary (bits_of (slice_index text 1)) (drop 2 text) else loses_decimal (scan_numeral text)

-- a text with its separators
abbrev pub loses_precision : List ℕ → Bool
loses_precision text = loses (without_separators text)
