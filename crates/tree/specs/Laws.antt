-- What is proved of finished trees beside what the calls say.
use Rattle.std.specs.Prelude.{◌≡◌, ℕ, ◌+◌, ◌<◌, [], ◌∷◌, length}
use Rattle.tree.specs.Flat.{parents}
use Rattle.tree.specs.Growth.{node_runs}
use Rattle.tree.specs.Whole.{IsWhole}
use Rattle.tree.specs.declared.flat_tree.FlatTree.{FlatTree}

-- each node but the last is a part of just one, which stands after it
abbrev pub HasOneParent : FlatTree → ℕ → Type 0
HasOneParent f j = (i : ℕ) × (j < i) × (parents j 0 (node_runs f.parts.items f.nodes.items) ≡ i ∷ [])

abbrev pub AllButTheLastHaveOneParent : Type 0
AllButTheLastHaveOneParent = (f : FlatTree) → IsWhole f → (j : ℕ) → j + 1 < length f.nodes.items → HasOneParent f j

-- and the last is a part of none
abbrev pub TheLastHasNoParent : Type 0
TheLastHasNoParent = (f : FlatTree) → IsWhole f → (j : ℕ) → j + 1 ≡ length f.nodes.items → parents j 0 (node_runs f.parts.items f.nodes.items) ≡ []
