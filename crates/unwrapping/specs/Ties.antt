-- Where a node is grouped, by what it costs.
use Rattle.std.specs.Prelude.{ℕ, ◌+◌, Bool, true, false, ◌&&◌, ◌||◌, nat_eq, nat_lt, Option, Some, None}

-- Whether a node costs more without a pair than with one, by the pairs inside: without one, where none is more than anything, and with it.
-- Where it costs as much, the text decides: whether it has a pair round the node.
abbrev pub costs_more : Option ℕ → Option ℕ → Bool → Bool
costs_more None inside paired = true
costs_more (Some direct) None paired = false
costs_more (Some direct) (Some inside) paired = nat_lt (inside + 1) direct || nat_eq direct (inside + 1) && paired
