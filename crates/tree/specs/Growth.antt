-- What the nodes of a vector have: their parts, and their rows.
use Rattle.std.specs.Prelude.{ℕ, List, map, Option, Some, None}
use Rattle.std.specs.List.{slice_get}
use Rattle.tree.specs.Flat.{run_of}
use Rattle.tree.specs.declared.flat_node.NodeNumber.{NodeNumber}
use Rattle.tree.specs.declared.flat_node.FlatNode.{FlatNode}

-- the parts of each node
abbrev pub node_runs : List (Option NodeNumber) → List FlatNode → List (List (Option NodeNumber))
node_runs pool es = map (run_of pool) es

abbrev pub node_rows : List FlatNode → List (Option ℕ)
node_rows es = map (λ (e : FlatNode). e.row) es

abbrev pub held : Option (Option ℕ) → Option ℕ
held None = None
held (Some r) = r

abbrev pub row_at : List FlatNode → ℕ → Option ℕ
row_at es i = held (slice_get (node_rows es) i)
