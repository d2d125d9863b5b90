-- The bodies of a script's functions.
use Rattle.std.specs.Prelude.{◌≡◌, ℕ, true, Some}
use Rattle.tree.specs.Kinds.{is_function}
use Rattle.tree.specs.Tree.{Tree, kind_of, part_at, parts_of}
use Rattle.flow_rules.specs.KindSets.{is_block}

-- the block is the body of a function that stands in a tree
pub data FunctionBody (body : Tree) : Tree → Type 0 where
  here : {function : Tree} (n : ℕ) → is_function (kind_of function) ≡ true → is_block (kind_of body) ≡ true → part_at (parts_of function) n ≡ Some body → FunctionBody body function
  below : {tree inner : Tree} (n : ℕ) → part_at (parts_of tree) n ≡ Some inner → FunctionBody body inner → FunctionBody body tree
