-- Bytes of texts.
use Rattle.std.specs.Prelude.{ℕ, Bool, ◌||◌, ◌&&◌, nat_le, List, unwrap_or}
use Rattle.std.specs.List.{slice_get}
use Rattle.tokens.specs.Alphabet.{one_of}

-- the byte at a place; 0 behind the end
abbrev pub byte_at : List ℕ → ℕ → ℕ
byte_at bytes place = unwrap_or (slice_get bytes place) 0

abbrev pub is_quote : ℕ → Bool
is_quote c = one_of "\"'" c

abbrev pub is_digit : ℕ → Bool
is_digit c = nat_le 0x30 c && nat_le c 0x39

-- HexDigit (12.9.3)
abbrev pub is_hex_digit : ℕ → Bool
is_hex_digit c = is_digit c || (nat_le 0x61 c && nat_le c 0x66) || (nat_le 0x41 c && nat_le c 0x46)
