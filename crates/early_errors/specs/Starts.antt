-- Where the nodes of a tree start.
use Rattle.std.specs.Prelude.{ℕ, List, [], ◌∷◌, ◌++◌}
use Rattle.tree.specs.Tree.{Tree, node, Parts, none, part, gap}

unfoldable mutual
  -- the starts of a node and of all below it
  pub starts : Tree → List ℕ
  starts (node kind text flags from to parts) = from ∷ parts_starts parts

  pub parts_starts : Parts → List ℕ
  parts_starts none = []
  parts_starts (part tree rest) = starts tree ++ parts_starts rest
  parts_starts (gap rest) = parts_starts rest
