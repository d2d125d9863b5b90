-- Rows don't depend on a position's symbol, In and start.
use Rattle.std.proofs.Common.{◌≡◌, ◌+◌, Bool, List, [], ◌∷◌, refl, ap₂}
use Rattle.std.specs.Prelude.{map}
use Rattle.tree.specs.Tree.{Tree, node, Parts, none, part, gap}
use Rattle.language.specs.declared.Rank.{Rank}
use Rattle.language.specs.declared.Start.{Start}
use Rattle.language.specs.Pieces.{Role, expr, chain_part, pattern, Slot, fixed, left, lead, tail, callee, lead_chain, lead_pattern, settle}
use Rattle.language.specs.RowPositions.{widest, rows, parts_rows}

pub rows-widest : (n : Tree) (a : Role) → rows n a ≡ rows n (widest a)
unfolding rows
rows-widest (node k w g s e ps) (expr y i f) = refl
rows-widest (node k w g s e ps) (chain_part f) = refl
rows-widest (node k w g s e ps) (pattern b f) = refl
rows-widest (node k w g s e ps) _ = refl

pub parts_rows-widest : (ps : Parts) (xs : List Role) → parts_rows ps xs ≡ parts_rows ps (map widest xs)
unfolding rows parts_rows
parts_rows-widest none xs = refl
parts_rows-widest (gap ps) xs = parts_rows-widest ps xs
parts_rows-widest (part n ps) [] = refl
parts_rows-widest (part n ps) (a ∷ xs) = ap₂ (λ u v. u + v) (rows-widest n a) (parts_rows-widest ps xs)

pub settle-widest : (y z : Rank) (i j : Bool) (f g : Start) (s : Slot) → widest (settle y i f s) ≡ widest (settle z j g s)
settle-widest y z i j f g (fixed a) = refl
settle-widest y z i j f g (left k) = refl
settle-widest y z i j f g (lead k) = refl
settle-widest y z i j f g (tail k x) = refl
settle-widest y z i j f g callee = refl
settle-widest y z i j f g lead_chain = refl
settle-widest y z i j f g lead_pattern = refl
