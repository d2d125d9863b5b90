-- NumericLiteral (ECMA-262 11.8.3) with the NumericLiteralSeparator of the 12th edition, by how far a literal has been read.
use Rattle.std.specs.Prelude.{ℕ, Bool, true, false, List, [], ◌∷◌, if◌then◌else◌}
use Rattle.tokens.specs.Alphabet.{one_of, is_decimal_digit, is_non_zero_digit, is_binary_digit, is_octal_digit, is_hex_digit}

pub data Base : Type 0 where
  binary octal hexadecimal : Base

abbrev pub is_digit_of : Base → ℕ → Bool
is_digit_of binary c = is_binary_digit c
is_digit_of octal c = is_octal_digit c
is_digit_of hexadecimal c = is_hex_digit c

pub data Numeral : Type 0 where
  -- nothing
  unread : Numeral
  -- DecimalIntegerLiteral: `0`, or a digit that isn't zero and DecimalDigits
  zero_read integer : Numeral
  -- a `.` that digits must follow, one that digits may follow, and DecimalDigits behind either
  leading_point point fraction : Numeral
  -- ExponentPart: `e` or `E`, its sign, and its DecimalDigits
  exponent_mark exponent_sign exponent : Numeral
  -- BinaryIntegerLiteral, OctalIntegerLiteral, HexIntegerLiteral: `0` and a letter, and digits behind it
  prefix digits : Base → Numeral
  -- NumericLiteralSeparator: one `_` behind a digit, which a digit of the same run must follow; none stands behind a leading `0`
  integer_separator fraction_separator exponent_separator : Numeral
  digits_separator : Base → Numeral
  -- BigIntLiteralSuffix: `n`
  suffix : Numeral
  -- no beginning of a literal
  no_numeral : Numeral

abbrev pub after_integer : ℕ → Numeral
after_integer c = if one_of "." c then point else if one_of "eE" c then exponent_mark else if one_of "n" c then suffix else no_numeral

abbrev pub after_zero : ℕ → Numeral
after_zero c = if one_of "bB" c then prefix binary else if one_of "oO" c then prefix octal else if one_of "xX" c then prefix hexadecimal else after_integer c

abbrev pub after_fraction : ℕ → Numeral
after_fraction c = if is_decimal_digit c then fraction else if one_of "eE" c then exponent_mark else no_numeral

-- how far it has been read behind one more character
abbrev pub next_numeral : Numeral → ℕ → Numeral
next_numeral unread c = if one_of "0" c then zero_read else if is_non_zero_digit c then integer else if one_of "." c then leading_point else no_numeral
next_numeral zero_read c = after_zero c
next_numeral integer c = if is_decimal_digit c then integer else if one_of "_" c then integer_separator else after_integer c
next_numeral leading_point c = if is_decimal_digit c then fraction else no_numeral
next_numeral point c = after_fraction c
next_numeral fraction c = if one_of "_" c then fraction_separator else after_fraction c
next_numeral exponent_mark c = if is_decimal_digit c then exponent else if one_of "+-" c then exponent_sign else no_numeral
next_numeral exponent_sign c = if is_decimal_digit c then exponent else no_numeral
next_numeral exponent c = if is_decimal_digit c then exponent else if one_of "_" c then exponent_separator else no_numeral
next_numeral (prefix base) c = if is_digit_of base c then digits base else no_numeral
next_numeral (digits base) c = if is_digit_of base c then digits base else if one_of "n" c then suffix else if one_of "_" c then digits_separator base else no_numeral
next_numeral integer_separator c = if is_decimal_digit c then integer else no_numeral
next_numeral fraction_separator c = if is_decimal_digit c then fraction else no_numeral
next_numeral exponent_separator c = if is_decimal_digit c then exponent else no_numeral
next_numeral (digits_separator base) c = if is_digit_of base c then digits base else no_numeral
next_numeral suffix c = no_numeral
next_numeral no_numeral c = no_numeral

-- whether a literal may end there
abbrev pub is_complete : Numeral → Bool
is_complete zero_read = true
is_complete integer = true
is_complete point = true
is_complete fraction = true
is_complete exponent = true
is_complete (digits base) = true
is_complete suffix = true
is_complete unread = false
is_complete leading_point = false
is_complete exponent_mark = false
is_complete exponent_sign = false
is_complete (prefix base) = false
is_complete integer_separator = false
is_complete fraction_separator = false
is_complete exponent_separator = false
is_complete (digits_separator base) = false
is_complete no_numeral = false

abbrev pub numeral_after : Numeral → List ℕ → Numeral
numeral_after read [] = read
numeral_after read (c ∷ cs) = numeral_after (next_numeral read c) cs

abbrev pub is_number : List ℕ → Bool
is_number text = is_complete (numeral_after unread text)
