-- The first way of a node as pieces of the table that are neat, and its pieces from the next part on.
use Rattle.std.proofs.Common.{◌≡◌, Bool, true, false, cond, List, [], ◌∷◌, refl, sym, subst, map, filter, ◌⊎◌, inl, inr}
use Rattle.std.proofs.lemmas.Bool.{and_parts, false≢true}
use Rattle.tree.specs.Tree.{Tree, node, Parts, none, part, gap, parts_of, bare}
use Rattle.tree.specs.Uses.{is_lean}
use Rattle.language.specs.declared.Rank.{Rank}
use Rattle.language.specs.declared.Start.{Start}
use Rattle.language.specs.Pieces.{Role, expr, shorthand_key, script, Slot, fixed, left, lead, tail, callee, lead_chain, lead_pattern, settle, is_tight, Piece, sub, absent, Spelling}
use Rattle.language.specs.Grammar.{ways, ways_bare, spellings, can_run, fits_position, own_rank, own_in, own_start}
use Rattle.language.specs.RowPositions.{roles}
use Rattle.language.specs.Derivation.{Among, first, later}
use Rattle.language.specs.Layout.{some_way, after_part, first_way}
use Rattle.language.specs.LayoutFits.{lines_up}
use Rattle.language.proofs.lower_bound.Domination.{ways_of, settled}
use Rattle.language.proofs.lower_bound.Domination.{fits as fits_at}
use Rattle.language.proofs.table.Alike.{standing_at}
use Rattle.language.proofs.table.NeatPieces.{Touch, fresh, Sort, a_tight, an_operand, sort_of, slot_sort, rank_sort, echo_followed, neat}
use Rattle.language.proofs.table.NeatExpressions.{Neat, no_spelling, a_spelling, first_is_open}
use Rattle.language.proofs.table.NeatTable.{table_neat, is_plain}

-- a slot and its position are of one sort
pub settled_sort : (z : Rank) (i : Bool) (f : Start) (x : Slot) → sort_of (settle z i f x) ≡ slot_sort x
settled_sort z i f (fixed a) = refl
settled_sort z i f (left y) = refl
settled_sort z i f (lead y) = refl
settled_sort z i f (tail y x) = refl
settled_sort z i f callee = go (is_tight z)
  where
    go : (b : Bool) → sort_of (expr (cond b Rattle.language.specs.declared.Rank.TheVariants.Member Rattle.language.specs.declared.Rank.TheVariants.Call) true f) ≡ a_tight
    go true = refl
    go false = refl
settled_sort z i f lead_chain = refl
settled_sort z i f lead_pattern = refl

abbrev pub placed : Role → Slot → Role
placed a x = settle (own_rank a) (own_in a) (own_start a) x

-- a part stands at a plain position, or is a shorthand key
pub part_position : (e : Role) (qs : List Piece) → echo_followed (sort_of e) qs ≡ true → (is_plain e ≡ true) ⊎ (e ≡ shorthand_key)
part_position shorthand_key qs h = inr refl
part_position script qs h = absurd (false≢true h)
part_position _ qs h = inl refl

open_bare : (ps : Parts) → first_is_open (Rattle.tree.specs.Tree.bare_parts ps) ≡ first_is_open ps
open_bare none = refl
open_bare (gap ps) = refl
open_bare (part (node k w g s e qs) ps) = refl

open_below : (n : Tree) → first_is_open (parts_of (bare n)) ≡ first_is_open (parts_of n)
open_below (node k w g s e ps) = open_bare ps

-- the first way of a node
pub record FirstWay (a : Role) (n : Tree) : Type 0 where
  pub spelling : Spelling
  pub among : Among spelling (spellings a (bare n))
  pub fits : fits_position a spelling ≡ true
  pub is : first_way (ways a n) ≡ standing_at a spelling.pieces
  pub neat : Rattle.language.proofs.table.NeatPieces.neat (first_is_open (parts_of n)) false fresh spelling.pieces ≡ true
  pub runs : can_run spelling.pieces ≡ true
  pub some : some_way (ways a n) ≡ true

record FirstOf (a : Role) (b : Bool) (xs : List Spelling) : Type 0 where
  spelling : Spelling
  among : Among spelling xs
  fits : fits_position a spelling ≡ true
  is : first_way (ways_of a xs) ≡ standing_at a spelling.pieces
  neat : Rattle.language.proofs.table.NeatPieces.neat b false fresh spelling.pieces ≡ true
  runs : can_run spelling.pieces ≡ true

first_of : (a : Role) {b : Bool} {xs : List Spelling} → Neat b xs → some_way (ways_of a xs) ≡ true → FirstOf a b xs
first_of a no_spelling h = absurd (false≢true h)
first_of a {b} (a_spelling {x = x} {xs = xs} h k) s = go (fits_at a x) refl (λ t. first_of a k t) s
  where
    go : (t : Bool) → fits_at a x ≡ t → (some_way (ways_of a xs) ≡ true → FirstOf a b xs) → some_way (map (settled a) (cond t (x ∷ filter (fits_at a) xs) (filter (fits_at a) xs))) ≡ true → FirstOf a b (x ∷ xs)
    go true e f s = let u = and_parts (fits_position a x) _ e in record { spelling = x; among = first; fits = u.0; is = subst (λ t. first_way (map (settled a) (cond t (x ∷ filter (fits_at a) xs) (filter (fits_at a) xs))) ≡ standing_at a x.pieces) (sym e) refl; neat = h; runs = u.1 }
    go false e f s = let u = f s in record { spelling = u.spelling; among = later u.among; fits = u.fits; is = subst (λ t. first_way (map (settled a) (cond t (x ∷ filter (fits_at a) xs) (filter (fits_at a) xs))) ≡ standing_at a u.spelling.pieces) (sym e) u.is; neat = u.neat; runs = u.runs }

pub first_is_neat : (a : Role) (n : Tree) → is_plain a ≡ true → some_way (ways a n) ≡ true → FirstWay a n
unfolding ways ways_bare
first_is_neat a n p s = go (is_lean (bare n)) refl s
  where
    go : (t : Bool) → is_lean (bare n) ≡ t → some_way (cond t (ways_of a (spellings a (bare n))) []) ≡ true → FirstWay a n
    go false e s = absurd (false≢true s)
    go true e s =
        let u = first_of a (table_neat a (bare n) p) s in
        record {
          spelling = u.spelling;
          among = u.among;
          fits = u.fits;
          is = subst (λ t. first_way (cond t (ways_of a (spellings a (bare n))) []) ≡ standing_at a u.spelling.pieces) (sym e) u.is;
          neat = subst (λ b. neat b false fresh u.spelling.pieces ≡ true) (open_below n) u.neat;
          runs = u.runs;
          some = subst (λ t. some_way (cond t (ways_of a (spellings a (bare n))) []) ≡ true) (sym e) s;
        }

-- Pieces from the next part on

pub record TailOf (a : Role) (qs rs : List Piece) : Type 0 where
  pub roles : Rattle.language.specs.RowPositions.roles (standing_at a qs) ≡ Rattle.language.specs.RowPositions.roles (standing_at a rs)
  pub behind : after_part (standing_at a qs) ≡ after_part (standing_at a rs)
  pub lines : (ps : Parts) → lines_up (standing_at a qs) ps ≡ lines_up (standing_at a rs) ps

pub whole_tail : (a : Role) (qs : List Piece) → TailOf a qs qs
whole_tail a qs = record { roles = refl; behind = refl; lines = λ ps. refl }

abbrev pub is_tail : List Piece → Bool
is_tail [] = true
is_tail (sub x ∷ qs) = true
is_tail (absent ∷ qs) = true
is_tail _ = false
