-- The rows of a cost table: one for each node at an expression's position, a node before its parts.
use Rattle.std.specs.Prelude.{ℕ, Bool, true, false, List, [], ◌∷◌, ◌++◌, Option, map}
use Rattle.language.specs.declared.Rank.TheVariants.{Expression}
use Rattle.language.specs.declared.Start.TheVariants.{Any}
use Rattle.tree.specs.Tree.{Tree, node, Parts, none, part, gap, kind_of}
use Rattle.language.specs.Pieces.{Role, expr}
use Rattle.language.specs.Grammar.{ways}
use Rattle.language.specs.RowPositions.{first_roles, widest}
use Rattle.tree.specs.declared.kind.Kind.{Kind}
use Rattle.cost_table.specs.declared.costs.Costs.{Costs}
use Rattle.cost_table.specs.declared.table.Row.{Row}
use Rattle.language.specs.Pieces.{script}
use Rattle.language.specs.Cost.{cells}
use Rattle.language.specs.Claims.{row_nodes}
use Rattle.cost_table.specs.Costs.{cells_at, eight}

abbrev pub row_with : Kind → Costs → Row
row_with k c = record { kind = k; costs = c }

-- a row as its kind and its eight numbers
abbrev pub shown : Row → Kind × List (Option ℕ)
shown r = (r.kind, eight r.costs)

-- a node's kind and its cells
abbrev pub celled : Tree → Kind × List (Option ℕ)
celled n = (kind_of n, cells n)

-- the rows of a script's cost table
abbrev pub cell_rows : Tree → List (Kind × List (Option ℕ))
cell_rows n = map celled (row_nodes n script)

-- the row of a node: its kind and its cells, with the ninth
unfoldable pub row_of : Tree → Row
row_of n = row_with (kind_of n) (cells_at n (expr Expression true Any))

abbrev pub is_expression : Role → Bool
is_expression (expr y i f) = true
is_expression _ = false

-- at an expression's position
abbrev pub own_row : Role → Row → List Row
own_row (expr y i f) r = r ∷ []
own_row _ r = []

unfoldable mutual
  pub table_rows : Tree → Role → List Row
  table_rows (node k w g s e ps) a = own_row a (row_of (node k w g s e ps)) ++ parts_table ps (first_roles (ways (widest a) (node k w g s e ps)))

  pub parts_table : Parts → List Role → List Row
  parts_table none xs = []
  parts_table (gap ps) xs = parts_table ps xs
  parts_table (part n ps) [] = []
  parts_table (part n ps) (a ∷ xs) = table_rows n a ++ parts_table ps xs
