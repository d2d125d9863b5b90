-- A part of a chain, from its first part.
use Rattle.std.proofs.Common.{◌≡◌, true, false, Option, refl, ap, ◌∙◌}
use Rattle.std.specs.Prelude.{◌&&◌}
use Rattle.tree.specs.Tree.{Tree, node, Parts, none, part, gap, kind_of, flags_of, parts_of, part_at}
use Rattle.language.specs.Expressions.{has_optional, first_has_optional, is_chain_part}
use Rattle.grammar.specs.Chains.{part_has_optional}

at_first : (ps : Parts) → part_has_optional (part_at ps 0) ≡ first_has_optional ps
at_first none = refl
at_first (part n ps) = refl
at_first (gap ps) = refl

pub chained_first : (ps : Parts) (o : Option Tree) → o ≡ part_at ps 0 → part_has_optional o ≡ first_has_optional ps
chained_first ps o h = ap part_has_optional h ∙ at_first ps

pub chained_below : (n : Tree) (o : Option Tree) → is_chain_part (kind_of n) ≡ true → (flags_of n).optional ≡ false → o ≡ part_at (parts_of n) 0 → part_has_optional o ≡ has_optional n
chained_below (node k w g s e ps) o h f p = rw (h, f) (chained_first ps o p)
