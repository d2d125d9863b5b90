-- Escapes of strings and templates (ECMA-262 11.8.4), and what texts with escapes stand for, in units of UTF-16.
use Rattle.std.specs.Prelude.{ℕ, zero, suc, ◌+◌, ◌*◌, not, ◌&&◌, ◌==◌, List, [], ◌∷◌, ◌++◌, length, take, take_while, drop, nat_le, Option, Some, None, if◌then◌else◌}
use Rattle.std.specs.List.{list_all}
use Rattle.std.specs.Char.{digit_value}
use Rattle.std.specs.Char.Escape.{encode_utf16}
use Rattle.source_text.specs.Lines.{is_line_terminator}
use Rattle.tokens.specs.Alphabet.{one_of, begins_with, is_empty, line_feed, carriage_return, is_decimal_digit, is_hex_digit}

-- what stands at a place: how many characters behind the first belong to it, and the units that it stands for
pub record Piece : Type 0 where
  pub more : ℕ
  pub units : List ℕ

-- the number that hexadecimal digits write, behind those before them (MV of HexDigits, 11.8.3.1)
abbrev pub hex_value : ℕ → List ℕ → ℕ
hex_value before [] = before
hex_value before (c ∷ cs) = hex_value (16 * before + digit_value c) cs

-- so many hexadecimal digits behind `x` or `u` (HexEscapeSequence, Hex4Digits)
abbrev pub fixed_escape : ℕ → List ℕ → Option Piece
fixed_escape count text =
    if (length (take count text) == count) && list_all is_hex_digit (take count text)
    then Some (record { more = count + 1; units = hex_value 0 (take count text) ∷ [] })
    else None

-- digits and `}` behind `u{`, which count too; the digits are given beside what follows them (CodePoint)
abbrev pub code_point_escape : List ℕ → List ℕ → Option Piece
code_point_escape digits behind =
    if not (is_empty digits) && nat_le (hex_value 0 digits) 0x10FFFF && begins_with (one_of "}") behind
    then Some (record { more = length digits + 3; units = encode_utf16 (hex_value 0 digits) })
    else None

-- behind `u` (UnicodeEscapeSequence)
abbrev pub unicode_escape : List ℕ → Option Piece
unicode_escape [] = None
unicode_escape (c ∷ cs) =
    if one_of "{" c
    then code_point_escape (take_while is_hex_digit cs) (drop (length (take_while is_hex_digit cs)) cs)
    else fixed_escape 4 (c ∷ cs)

-- SingleEscapeCharacter and NonEscapeCharacter
abbrev pub escaped_character : ℕ → ℕ
escaped_character c =
    if one_of "b" c then 0x8 else if one_of "t" c then 0x9 else if one_of "n" c then 0xA else if one_of "v" c then 0xB
    else if one_of "f" c then 0xC else if one_of "r" c then 0xD else c

-- behind a backslash: EscapeSequence, or the LineTerminatorSequence of LineContinuation, which stands for nothing
abbrev pub escape : List ℕ → Option Piece
escape [] = None
escape (c ∷ cs) =
    if one_of "x" c then fixed_escape 2 cs
    else if one_of "u" c then unicode_escape cs
    else if one_of "0" c then (if begins_with is_decimal_digit cs then None else Some (record { more = 1; units = 0 ∷ [] }))
    else if is_decimal_digit c then None
    else if (c == carriage_return) && begins_with (λ d. d == line_feed) cs then Some (record { more = 2; units = [] })
    else if is_line_terminator c then Some (record { more = 1; units = [] })
    else Some (record { more = 1; units = encode_utf16 (escaped_character c) })

-- a character, with its escape where it is a backslash
abbrev pub piece : ℕ → List ℕ → Option Piece
piece c text = if one_of "\\" c then escape text else Some (record { more = 0; units = encode_utf16 c })

abbrev pub join_units : Option Piece → Option (List ℕ) → Option (List ℕ)
join_units (Some p) (Some units) = Some (p.units ++ units)
join_units _ _ = None

abbrev pub more_of : Option Piece → ℕ
more_of (Some p) = p.more
more_of None = 0

-- The units that characters stand for, of which the first so many belong to what stands before them: none where an escape is bad.
-- (SV, 11.8.4; TV, 11.8.6.1; UTF16Encoding, 10.1.1.)
abbrev pub units_behind : ℕ → List ℕ → Option (List ℕ)
units_behind skipped [] = Some []
units_behind zero (c ∷ cs) = join_units (piece c cs) (units_behind (more_of (piece c cs)) cs)
units_behind (suc skipped) (c ∷ cs) = units_behind skipped cs

abbrev pub unescaped : List ℕ → Option (List ℕ)
unescaped text = units_behind 0 text
