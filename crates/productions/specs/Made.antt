-- What is made: the node, or no room for it.
use Rattle.std.specs.Prelude.{◌≡◌, ℕ, ◌≤◌, ◌<◌, Result, Ok, Err}
use Rattle.source_text.specs.declared.fault.Fault.{Fault}
use Rattle.source_text.specs.declared.fault.Fault.TheVariants.{TooDeep}
use Rattle.tree.specs.Tree.{Tree, height}

-- this tree where it is no higher than allowed, else it is too deep
abbrev pub Makes : Tree → ℕ → Result Tree Fault → Type 0
Makes t high (Ok made) = (made ≡ t) × (height t ≤ high)
Makes t high (Err fault) = (fault ≡ TooDeep) × (high < height t)
