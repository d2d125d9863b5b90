-- The number of the line on which a place stands.
use Rattle.std.specs.Prelude.{ℕ, cond, length, nat_le, List}
use Rattle.source_text.specs.LineBytes.{after_bytes}

-- an offset, or the end of the text where it lies behind that
abbrev pub within : List ℕ → ℕ → ℕ
within text offset = cond (nat_le offset (length text)) offset (length text)

-- at a place it is the first of `line_column`
abbrev pub line_of : List ℕ → ℕ → ℕ
line_of text offset = (after_bytes (1, 1) (within text offset) text).0
