-- What the line of a row says.
use Rattle.std.specs.Prelude.{ℕ, List, Option, Some, replicate}
use Rattle.tree.specs.declared.kind.Kind.{Kind}
use Rattle.cost_table.specs.declared.table.Row.{Row}
use Rattle.cost_table.specs.Costs.{no_pairs, of_cells}
use Rattle.cost_table.specs.Rows.{row_with}
use Rattle.cost_certificate.specs.declared.read.RowLine.{RowLine}
use Rattle.cost_certificate.specs.declared.read.RowLine.TheVariants.{Zeros, Cells}

-- the row that a line says
abbrev pub said : RowLine → Kind × List (Option ℕ)
said (Zeros k) = (k, replicate 8 (Some 0))
said (Cells k xs) = (k, xs)

-- what a line says, as a table has it
abbrev pub said_row : RowLine → Row
said_row (Zeros k) = row_with k no_pairs
said_row (Cells k xs) = row_with k (of_cells xs)
