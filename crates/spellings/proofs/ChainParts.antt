-- A part of a chain, from its first part.
use Rattle.std.proofs.Common.{◌≡◌, Bool, true, false, sym}
use Rattle.std.specs.Prelude.{◌&&◌}
use Rattle.tree.specs.Tree.{Tree, node, flags_of, parts_of}
use Rattle.language.specs.Expressions.{has_optional, first_has_optional, is_chain_part}

pub chained_inside : (n : Tree) → has_optional n ≡ true → (flags_of n).optional ≡ false → true ≡ first_has_optional (parts_of n)
chained_inside (node k w g s e ps) h f = of (is_chain_part k) (first_has_optional ps) (rw f at h)
  where
    of : (a b : Bool) → (a && b) ≡ true → true ≡ b
    of true b h = sym h
    of false b h = absurd (cc)
