-- Whether the node of a row is wrapped, by flags for the rows in their order.
use Rattle.std.specs.Prelude.{ℕ, zero, suc, Bool, false, List, get_or}

-- the flag of a row, by its number, counted from 1
abbrev pub is_flagged : List Bool → ℕ → Bool
is_flagged bs zero = false
is_flagged bs (suc i) = get_or bs i false
