-- Cost tables in the words of the definition, and when one meets its bounds.
use Rattle.std.specs.Prelude.{◌≡◌, ℕ, suc, List, Some, map, slice_get}
use Rattle.tree.specs.Tree.{Tree, kind_of}
use Rattle.language.specs.Pieces.{Role, script}
use Rattle.language.specs.Claims.{Table, row_nodes, contexts, table_cell, cell_bound, total_bound}
use Rattle.cost_table.specs.declared.table.Row.{Row}
use Rattle.cost_table.specs.Rows.{shown}

-- the table of these rows and this total
abbrev pub table_of : List Row → ℕ → Table
table_of rows total = record { rows = map shown rows; total = total }

-- it has a row of the right kind for each node that has one, each cell equals its bound, and so does the total
pub record MeetsBounds (t : Table) (n : Tree) : Type 0 where
  pub shape : map (λ x. x.0) t.rows ≡ map kind_of (row_nodes n script)
  pub cells : (r : ℕ) (m : Tree) → slice_get (row_nodes n script) r ≡ Some m → (c : ℕ) (a : Role) → slice_get contexts c ≡ Some a → table_cell t (suc r) c ≡ cell_bound t m a (suc r)
  pub total : Some t.total ≡ total_bound t n
