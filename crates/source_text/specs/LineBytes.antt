-- Lines and columns by bytes, which `Lines` of `proofs` shows to be those by characters.
use Rattle.std.specs.Prelude.{◌≡◌, ◌≤◌, ◌<◌, ℕ, zero, suc, ◌+◌, Bool, true, false, ◌==◌, ◌&&◌, ◌||◌, not, nat_le, nat_lt, List, [], ◌∷◌, slice_index, if◌then◌else◌}

-- a byte that begins no character
abbrev pub continues : ℕ → Bool
continues b = nat_le 128 b && nat_lt b 192

-- whether the character that begins with the first byte ends a line, by that byte and the two behind it
abbrev pub ends_line_at : ℕ → ℕ → ℕ → Bool
ends_line_at b b1 b2 = (b == 10) || (b == 13 && not (b1 == 10)) || (b == 226 && b1 == 128 && (b2 == 168 || b2 == 169))

-- whether the character at a place of a text ends a line
abbrev pub ends_line_in : List ℕ → ℕ → Bool
ends_line_in text at = ends_line_at (slice_index text at) (slice_index text (at + 1)) (slice_index text (at + 2))

-- no line ends from one place on, up to another
abbrev pub NoLineEnds : List ℕ → ℕ → ℕ → Type 0
NoLineEnds text from to = (at : ℕ) → from ≤ at → at < to → ends_line_in text at ≡ false

-- the first line end from a place on begins one byte before the other
pub record IsNextLine (text : List ℕ) (from next : ℕ) : Type 0 where
  pub at : ℕ
  pub reaches : next ≡ at + 1
  pub ordered : from ≤ at
  pub passed : NoLineEnds text from at
  pub ends : ends_line_in text at ≡ true

abbrev pub after_byte : ℕ × ℕ → ℕ → ℕ → ℕ → ℕ × ℕ
after_byte p b b1 b2 = if continues b then p else (if ends_line_at b b1 b2 then (p.0 + 1, 1) else (p.0, p.1 + 1))

-- line and column behind the first n bytes
abbrev pub after_bytes : ℕ × ℕ → ℕ → List ℕ → ℕ × ℕ
after_bytes p zero text = p
after_bytes p (suc n) [] = p
after_bytes p (suc n) (b ∷ bs) = after_bytes (after_byte p b (slice_index bs 0) (slice_index bs 1)) n bs
