-- No tree is higher than it has nodes.
use Rattle.std.proofs.Common.{◌≤◌, ◌+◌, ℕ, zero, suc, max, arith}
use Rattle.tree.specs.Tree.{Tree, node, Parts, none, part, gap, height, parts_height, node_total, parts_total}

max_within : (a b : ℕ) → max a b ≤ a + b
max_within zero b = omega arith
max_within (suc a) zero = omega arith
max_within (suc a) (suc b) = omega (arith, max_within a b)

mutual
  pub height_within : (t : Tree) → height t ≤ node_total t
  height_within (node k w g s e ps) = omega (arith, parts_within ps)

  parts_within : (ps : Parts) → parts_height ps ≤ parts_total ps
  parts_within none = omega arith
  parts_within (part n ps) = omega (arith, max_within (height n) (parts_height ps), height_within n, parts_within ps)
  parts_within (gap ps) = parts_within ps
