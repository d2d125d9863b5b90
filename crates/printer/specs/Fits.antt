-- The rows that are wrapped, by the printer's flags.
use Rattle.std.specs.Prelude.{◌≡◌, ℕ, zero, suc, Bool, false, List}
use Rattle.tree.specs.Tree.{Tree}
use Rattle.language.specs.Pieces.{script}
use Rattle.language.specs.Layout.{has_number, wrapped_rows}
use Rattle.printer.specs.Sheets.{flag_at}

-- the first flag is that of row 1
abbrev pub wrapped_by : List Bool → ℕ → Bool
wrapped_by bs zero = false
wrapped_by bs (suc r) = flag_at bs r

-- they wrap the nodes that the tree's costs wrap
abbrev pub IsPlanned : List Bool → Tree → Type 0
IsPlanned bs n = (r : ℕ) → wrapped_by bs r ≡ has_number (wrapped_rows n script 1) r
