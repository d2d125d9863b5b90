-- What stands between two places of a text, in bytes.
use Rattle.std.specs.Prelude.{ℕ, Bool, ◌&&◌, ◌||◌, cond, length, nat_eq, nat_le, nat_lt, List, [], slice_range}
use Rattle.std.specs.Prelude.{slice_index}

-- a character begins there, or the text ends
abbrev pub is_place : List ℕ → ℕ → Bool
is_place text at = nat_eq at (length text) || (nat_lt at (length text) && (nat_lt (slice_index text at) 128 || nat_le 192 (slice_index text at)))

-- nothing, where the two are no places in order
abbrev pub piece : List ℕ → ℕ → ℕ → List ℕ
piece text from to = cond (nat_le from to && (is_place text from && is_place text to)) (slice_range text from to) []
