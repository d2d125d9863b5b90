-- What a way is: a spelling of the table that fits.
use Rattle.std.proofs.Common.{◌≡◌, Bool, true, false, cond, List, [], ◌∷◌, refl}
use Rattle.std.specs.Prelude.{IsTrue, map, filter}
use Rattle.tree.specs.Tree.{Tree, bare}
use Rattle.language.specs.Pieces.{Role, Spelling, PieceOf}
use Rattle.language.specs.Derivation.{Among, first, later}
use Rattle.tree.specs.Uses.{is_lean}
use Rattle.language.specs.Grammar.{ways, ways_bare, spellings}
use Rattle.language.proofs.lower_bound.Domination.{settled, fits}
pub use Rattle.language.proofs.table.NodeForms.{made, absent_is_false}
pub use Rattle.language.proofs.table.InLists.{one, cases, unless}

pub from_map : {X Y : Type 0} {y : Y} (f : X → Y) (xs : List X) → Among y (map f xs) → (x : X) × Among x xs × (y ≡ f x)
from_map f [] h = elim h [ ]
from_map f (x ∷ xs) first = (x, first, refl)
from_map f (x ∷ xs) (later h) = let u = from_map f xs h in (u.0, later u.1, u.2)

from_cond : {X : Type 0} {x y : X} (f : X → Bool) (xs ys : List X) → (Among x xs → IsTrue (f x) × Among x ys) → (b : Bool) → f y ≡ b → Among x (cond b (y ∷ xs) xs) → IsTrue (f x) × Among x (y ∷ ys)
from_cond f xs ys k true e first = (e, first)
from_cond f xs ys k true e (later h) = let u = k h in (u.0, later u.1)
from_cond f xs ys k false e h = let u = k h in (u.0, later u.1)

pub from_filter : {X : Type 0} {x : X} (f : X → Bool) (xs : List X) → Among x (filter f xs) → IsTrue (f x) × Among x xs
from_filter f [] h = elim h [ ]
from_filter f (y ∷ ys) h = from_cond f (filter f ys) ys (from_filter f ys) (f y) refl h

-- a way is a spelling of the table that fits
pub record Way (a : Role) (n : Tree) (qs : List (PieceOf Role)) : Type 0 where
  pub spelling : Spelling
  pub listed : Among spelling (spellings a (bare n))
  pub fit : IsTrue (fits a spelling)
  pub is : qs ≡ settled a spelling
  pub lean : is_lean (bare n) ≡ true

pub way_of : {a : Role} {n : Tree} {qs : List (PieceOf Role)} → Among qs (ways a n) → Way a n qs
unfolding ways ways_bare
way_of {a} {n} {qs} h = go (is_lean (bare n)) refl h
  where
    go : (b : Bool) → is_lean (bare n) ≡ b → Among qs (cond b (map (settled a) (filter (fits a) (spellings a (bare n)))) []) → Way a n qs
    go false e h = elim h [ ]
    go true e h = let u = from_map (settled a) _ h in let v = from_filter (fits a) _ u.1 in
        record { spelling = u.0; listed = v.1; fit = v.0; is = u.2; lean = e }
