-- The characters of tokens (ECMA-262 11.6.1, 11.8), as code points. White space and line terminators (11.2, 11.3) are those of source_text.
use Rattle.std.specs.Prelude.{ℕ, Bool, true, false, ◌&&◌, ◌||◌, List, [], ◌∷◌, nat_le, codes}
use Prim.Native.String.{String}
pub use Rattle.source_text.specs.Spaces.{is_among, is_white_space}
use Rattle.unicode_ident.specs.Ident.{is_xid_start, is_xid_continue}

-- the character is one of a text's
abbrev pub one_of : String → ℕ → Bool
one_of s c = is_among c (codes s)

-- a character stands next, and it passes the test
abbrev pub begins_with : (ℕ → Bool) → List ℕ → Bool
begins_with test [] = false
begins_with test (c ∷ cs) = test c

abbrev pub is_empty : List ℕ → Bool
is_empty [] = true
is_empty (c ∷ cs) = false

abbrev pub line_feed : ℕ
line_feed = 0xA

abbrev pub carriage_return : ℕ
carriage_return = 0xD

-- IdentifierStart (11.6.1), without escapes
abbrev pub is_identifier_start : ℕ → Bool
is_identifier_start c = one_of "$_" c || is_xid_start c

-- IdentifierPart (11.6.1), without escapes: U+200C and U+200D are ZWNJ and ZWJ
abbrev pub is_identifier_part : ℕ → Bool
is_identifier_part c = one_of "$" c || is_xid_continue c || is_among c (0x200C ∷ 0x200D ∷ [])

-- DecimalDigit, NonZeroDigit, BinaryDigit, OctalDigit and HexDigit (11.8.3)
abbrev pub is_decimal_digit : ℕ → Bool
is_decimal_digit c = nat_le 0x30 c && nat_le c 0x39

abbrev pub is_non_zero_digit : ℕ → Bool
is_non_zero_digit c = nat_le 0x31 c && nat_le c 0x39

abbrev pub is_binary_digit : ℕ → Bool
is_binary_digit c = nat_le 0x30 c && nat_le c 0x31

abbrev pub is_octal_digit : ℕ → Bool
is_octal_digit c = nat_le 0x30 c && nat_le c 0x37

abbrev pub is_hex_digit : ℕ → Bool
is_hex_digit c = is_decimal_digit c || (nat_le 0x61 c && nat_le c 0x66) || (nat_le 0x41 c && nat_le c 0x46)
