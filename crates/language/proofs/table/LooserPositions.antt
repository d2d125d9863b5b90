-- Costs of looser positions.
use Rattle.std.proofs.Common.{ℕ, suc, ◌+◌, Bool, true, false, List, [], ◌∷◌, arith}
use Rattle.std.specs.Prelude.{Option, Some, None, IsTrue}
use Rattle.language.specs.declared.Rank.{Rank}
use Rattle.language.specs.declared.Rank.TheVariants.{Expression}
use Rattle.language.specs.declared.Start.{Start}
use Rattle.language.specs.declared.Start.TheVariants.{Any}
use Rattle.tree.specs.Tree.{Tree, node, parts_of}
use Rattle.language.specs.Pieces.{Role, expr, chain_part, pattern, PieceOf}
use Rattle.language.proofs.table.Ranks.{looser_rank, looser_start}
use Rattle.tree.specs.Uses.{implies}
use Rattle.language.specs.Grammar.{ways}
use Rattle.language.specs.Derivation.{Among}
use Rattle.language.specs.RowPositions.{roles, first_roles}
use Rattle.language.specs.Cost.{add_cost, lesser, AtMost, at_most, if_any, cell_position, least, parts_least}

pub AtMost-lesser_left : {n : ℕ} (x y : Option ℕ) → AtMost x n → AtMost (lesser x y) n
unfolding lesser
AtMost-lesser_left x None (at_most h) = at_most h
AtMost-lesser_left x (Some k) (at_most h) = at_most (omega arith)

pub AtMost-lesser_right : {n : ℕ} (x y : Option ℕ) → AtMost y n → AtMost (lesser x y) n
unfolding lesser
AtMost-lesser_right None y h = h
AtMost-lesser_right (Some k) y (at_most h) = at_most (omega arith)

pub AtMost-add : {x y : Option ℕ} {m n : ℕ} → AtMost x m → AtMost y n → AtMost (add_cost x y) (m + n)
unfolding add_cost
AtMost-add (at_most h) (at_most k) = at_most (omega arith)

-- one pair round the node is enough for a cost with the pair
pub AtMost-one_more : {n : ℕ} (d : Option ℕ) → AtMost (lesser d (add_cost (Some 1) d)) n → AtMost (add_cost (Some 1) d) (suc n)
unfolding lesser add_cost
AtMost-one_more None h = elim h [ ]
AtMost-one_more (Some m) (at_most h) = at_most (omega arith)

pub least-direct : (n : Tree) (b : Role) (m : ℕ) → AtMost (if_any (ways b n) (parts_least (parts_of n) (first_roles (ways (cell_position b) n)))) m → AtMost (least n b) m
unfolding least
least-direct (node k w g s e ps) (expr y i f) m h = AtMost-lesser_left _ _ h
least-direct (node k w g s e ps) _ m h = h

pub least-grouped : (n : Tree) (y : Rank) (i : Bool) (f : Start) (m : ℕ) → AtMost (least n (expr Expression true Any)) m → AtMost (least n (expr y i f)) (suc m)
unfolding least
least-grouped (node k w g s e ps) y i f m h = AtMost-lesser_right _ _ (AtMost-one_more _ h)

-- what stands at the first position stands at the second, with no more pairs
pub data Looser : Role → Role → Type 0 where
  same : {a : Role} → Looser a a
  looser : {y z : Rank} {i j : Bool} {f g : Start} → IsTrue (looser_rank y z) → IsTrue (implies i j) → IsTrue (looser_start f g) → Looser (expr y i f) (expr z j g)
  looser_spine : {f g : Start} → IsTrue (looser_start f g) → Looser (chain_part f) (chain_part g)
  looser_pattern : {f g : Start} → IsTrue (looser_start f g) → Looser (pattern false f) (pattern false g)

pub data AllLooser : List Role → List Role → Type 0 where
  end : AllLooser [] []
  next : {a b : Role} {xs ys : List Role} → Looser a b → AllLooser xs ys → AllLooser (a ∷ xs) (b ∷ ys)

-- each way at a position is no cheaper, place by place, than the first way of the cell of a looser position
abbrev pub Dominated : Type 0
Dominated = (n : Tree) (a b : Role) (qs : List (PieceOf Role)) → Looser a b → Among qs (ways a n) →
    (m : ℕ) → ((xs : List Role) → AllLooser (roles qs) xs → AtMost (parts_least (parts_of n) xs) m) →
    AtMost (if_any (ways b n) (parts_least (parts_of n) (first_roles (ways (cell_position b) n)))) m
