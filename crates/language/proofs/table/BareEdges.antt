-- The right edge of a tree, and whether it ends in an `if` without `else`, don't depend on places.
use Rattle.std.proofs.Common.{◌≡◌, false, cond, refl, ap}
use Rattle.language.specs.declared.Edge.TheVariants.{Arrow, Postfix, Other}
use Rattle.tree.specs.Tree.{Tree, node, Parts, none, part, gap, bare, bare_parts}
use Rattle.language.specs.Edges.{edge, last_edge, goes_right, is_arrow, is_update, is_yield, operand_edge, trails, ends_in_if, last_ends_in_if}

mutual
  -- of a node
  pub edge_bare : (n : Tree) → edge (bare n) ≡ edge n
  edge_bare (node k w g s e ps) = ap (λ x. cond (goes_right k) x (cond (is_arrow k) (cond g.expression x Arrow) (cond (is_update k) (cond g.prefix Other Postfix) (cond (is_yield k) (operand_edge x) Other)))) (last_edge_bare ps)

  -- of the last part
  pub last_edge_bare : (ps : Parts) → last_edge (bare_parts ps) ≡ last_edge ps
  last_edge_bare none = refl
  last_edge_bare (part n none) = edge_bare n
  last_edge_bare (part n (part m ps)) = last_edge_bare (part m ps)
  last_edge_bare (part n (gap ps)) = last_edge_bare ps
  last_edge_bare (gap ps) = last_edge_bare ps

mutual
  -- of a statement
  pub ends_bare : (n : Tree) → ends_in_if (bare n) ≡ ends_in_if n
  ends_bare (node k w g s e ps) = ap (λ x. cond (trails k) x false) (last_ends_bare ps)

  -- of its last part
  pub last_ends_bare : (ps : Parts) → last_ends_in_if (bare_parts ps) ≡ last_ends_in_if ps
  last_ends_bare none = refl
  last_ends_bare (part n none) = ends_bare n
  last_ends_bare (part n (part m ps)) = last_ends_bare (part m ps)
  last_ends_bare (part n (gap ps)) = last_ends_bare ps
  last_ends_bare (gap ps) = last_ends_bare ps
