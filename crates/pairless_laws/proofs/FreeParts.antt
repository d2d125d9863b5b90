-- What costs no pair has parts that cost none.
use Rattle.std.proofs.Common.{◌≡◌, ℕ, ◌+◌, List, [], ◌∷◌, ap, arith}
use Rattle.std.specs.Prelude.{Option, Some, None, min}
use Rattle.tree.specs.Tree.{Tree, node, parts_of}
use Rattle.language.specs.Pieces.{Role, expr, PieceOf}
use Rattle.language.specs.Grammar.{ways}
use Rattle.language.specs.RowPositions.{first_roles}
use Rattle.language.specs.Cost.{add_cost, lesser, if_any, cell_position, least, parts_least}

given_way : (qss : List (List (PieceOf Role))) (x : Option ℕ) → if_any qss x ≡ Some 0 → x ≡ Some 0
unfolding if_any
given_way [] x h = absurd (cc)
given_way (qs ∷ qss) x h = h

-- a cost of nothing isn't that of a pair
without_pair : (x y : Option ℕ) → lesser x (add_cost (Some 1) y) ≡ Some 0 → x ≡ Some 0
unfolding lesser add_cost
without_pair None None h = absurd (cc)
without_pair None (Some n) h = let e : 1 + n ≡ 0 = cc in absurd (omega (arith, e))
without_pair (Some m) None h = h
without_pair (Some m) (Some n) h = let e : min m (1 + n) ≡ 0 = cc in ap Some (let z : m ≡ 0 = omega (arith, e) in z)

pub free_parts : (n : Tree) (a : Role) → least n a ≡ Some 0 → parts_least (parts_of n) (first_roles (ways (cell_position a) n)) ≡ Some 0
unfolding least
free_parts (node k w g s e ps) (expr y i f) h = given_way (ways (expr y i f) (node k w g s e ps)) _ (without_pair _ _ h)
free_parts (node k w g s e ps) a h = given_way (ways a (node k w g s e ps)) _ h
