-- Where the ways to spell a node are tidy, the first is no dearer than the others.
use Rattle.std.proofs.Common.{◌≡◌, ℕ, Bool, true, false, cond, List, [], ◌∷◌, refl, sym, subst, ◌⊎◌, inl, inr}
use Rattle.std.specs.Prelude.{Option, IsTrue, ◌&&◌, nat_le, map, filter}
use Rattle.std.proofs.lemmas.Bool.{and_parts, and_from}
use Rattle.language.specs.declared.Rank.{Rank}
use Rattle.language.specs.declared.Rank.TheVariants.{Expression, Member}
use Rattle.language.specs.declared.Start.{Start}
use Rattle.language.specs.declared.Start.TheVariants.{Any, NoBrace, Statement}
use Rattle.tokens.specs.declared.token.TokenClass.TheVariants.{IdentifierName, Punctuator}
use Rattle.tree.specs.Tree.{Tree, node, parts_of, bare}
use Rattle.language.specs.Vocabulary.{precedence}
use Rattle.language.specs.Pieces.{Role, expr, Slot, fixed, left, lead, tail, callee, lead_chain, lead_pattern, PieceOf, Piece, tok, may, many, ahead, unbroken, no_operand, ending, open_parameters, close_parameters, sub, absent, never, lay, Spelling, settle, settle_piece}
use Rattle.tree.specs.Uses.{implies, is_lean}
use Rattle.language.specs.Grammar.{ways, ways_bare, spellings, fits_position, can_run, starts, own_rank, own_in, own_start}
use Rattle.language.specs.Derivation.{Among, first, later}
use Rattle.language.specs.RowPositions.{roles, first_roles}
use Rattle.language.specs.Cost.{AtMost, if_any, cell_position, parts_least}
use Rattle.language.specs.Laws.{has_two_ways}
use Rattle.language.proofs.table.Ranks.{looser_rank, looser_start, looser_takes, looser_refl, looser_all, looser_member, looser_callee, implies_trans, looser_start_refl}
use Rattle.language.proofs.table.Alike.{AlikeAnywhere}
use Rattle.language.proofs.table.LooserPositions.{Looser, same, looser, looser_spine, looser_pattern, AllLooser, end, next, Dominated}

-- a spelling's pieces at a position
abbrev pub settled : Role → Spelling → List (PieceOf Role)
settled a x = map (settle_piece (own_rank a) (own_in a) (own_start a)) x.pieces

abbrev pub fits : Role → Spelling → Bool
fits a x = fits_position a x && can_run x.pieces

pub settle-looser : (y z : Rank) (i j : Bool) (f g : Start) (s : Slot) → IsTrue (looser_rank y z) → IsTrue (implies i j) → IsTrue (looser_start f g) → Looser (settle y i f s) (settle z j g s)
settle-looser y z i j f g (fixed a) u v w = same
settle-looser y z i j f g (left k) u v w = looser (looser_refl (precedence k)) v w
settle-looser y z i j f g (lead k) u v w = looser (looser_refl (precedence k)) refl w
settle-looser y z i j f g (tail k x) u v w = looser (looser_refl (precedence k)) v (looser_start_refl x)
settle-looser y z i j f g callee u v w = looser (looser_callee y z u) refl w
settle-looser y z i j f g lead_chain u v w = looser_spine w
settle-looser y z i j f g lead_pattern u v w = looser_pattern w

pub slot-looser : {a b : Role} (s : Slot) → Looser a b → Looser (settle (own_rank a) (own_in a) (own_start a) s) (settle (own_rank b) (own_in b) (own_start b) s)
slot-looser s same = same
slot-looser s (looser {y = y} {z = z} {i = i} {j = j} {f = f} {g = g} u v w) = settle-looser y z i j f g s u v w
slot-looser s (looser_spine {f = f} {g = g} w) = settle-looser Expression Expression true true f g s (looser_refl 0) refl w
slot-looser s (looser_pattern {f = f} {g = g} w) = settle-looser Expression Expression true true f g s (looser_refl 0) refl w

pub roles-looser : {a b : Role} (qs : List Piece) → Looser a b →
    AllLooser (roles (map (settle_piece (own_rank a) (own_in a) (own_start a)) qs)) (roles (map (settle_piece (own_rank b) (own_in b) (own_start b)) qs))
roles-looser [] l = end
roles-looser (tok c w ∷ qs) l = roles-looser qs l
roles-looser (may w ∷ qs) l = roles-looser qs l
roles-looser (many w ∷ qs) l = roles-looser qs l
roles-looser (ahead w ∷ qs) l = roles-looser qs l
roles-looser (unbroken ∷ qs) l = roles-looser qs l
roles-looser (no_operand ∷ qs) l = roles-looser qs l
roles-looser (ending e ∷ qs) l = roles-looser qs l
roles-looser (open_parameters ∷ qs) l = roles-looser qs l
roles-looser (close_parameters ∷ qs) l = roles-looser qs l
roles-looser (sub s ∷ qs) l = next (slot-looser s l) (roles-looser qs l)
roles-looser (absent ∷ qs) l = roles-looser qs l
roles-looser (never ∷ qs) l = roles-looser qs l
roles-looser (lay h ∷ qs) l = roles-looser qs l

pub starts-Statement : (qs : List Piece) → IsTrue (starts Statement qs) → IsTrue (starts NoBrace qs)
starts-Statement [] h = refl
starts-Statement (tok Punctuator w ∷ qs) h = h
starts-Statement (tok IdentifierName w ∷ qs) h = refl
starts-Statement (_ ∷ qs) h = refl

pub starts-looser : (f g : Start) (qs : List Piece) → IsTrue (looser_start f g) → IsTrue (starts f qs) → IsTrue (starts g qs)
starts-looser f Any qs w h = refl
starts-looser NoBrace NoBrace qs w h = h
starts-looser Statement NoBrace qs w h = starts-Statement qs h
starts-looser Statement Statement qs w h = h
starts-looser Any NoBrace qs w h = cc
starts-looser Any Statement qs w h = cc
starts-looser NoBrace Statement qs w h = cc

abbrev pub NotNew : Spelling → Type 0
NotNew x = precedence x.rank ≡ 19 → ⊥

pub fits_position-looser : {a b : Role} (x : Spelling) → NotNew x → Looser a b → IsTrue (fits_position a x) → IsTrue (fits_position b x)
fits_position-looser x n same h = h
fits_position-looser x n (looser_spine w) h = refl
fits_position-looser x n (looser_pattern {f = f} {g = g} w) h = starts-looser f g x.pieces w h
fits_position-looser x n (looser {y = y} {z = z} {i = i} {j = j} {f = f} {g = g} u v w) h =
    let (p, q) = and_parts _ _ h in
    let (q1, q2) = and_parts _ _ q in
    and_from _ _ (looser_takes (precedence y) (precedence z) (precedence x.rank) u p n)
    (and_from _ _ (implies_trans x.needs_in i j v q1) (starts-looser f g x.pieces w q2))

pub fits-looser : {a b : Role} (x : Spelling) → NotNew x → Looser a b → IsTrue (fits a x) → IsTrue (fits b x)
fits-looser x n l h = let (p, q) = and_parts _ _ h in and_from _ _ (fits_position-looser x n l p) q

pub cell-looser : {a b : Role} → Looser a b → Looser a (cell_position b)
cell-looser {a = expr y i f} same = go (nat_le 21 (precedence y)) refl
  where
    go : (t : Bool) → nat_le 21 (precedence y) ≡ t → Looser (expr y i f) (cond t (expr Member true f) (expr Expression i f))
    go true e = looser (looser_member (precedence y) (precedence y) (looser_refl (precedence y)) e) (implies_true i) (looser_start_refl f)
      where
        implies_true : (b : Bool) → IsTrue (implies b true)
        implies_true true = refl
        implies_true false = refl
    go false e = looser (looser_all (precedence y)) (implies_refl i) (looser_start_refl f)
      where
        implies_refl : (b : Bool) → IsTrue (implies b b)
        implies_refl true = refl
        implies_refl false = refl
cell-looser {a = _} same = same
cell-looser (looser {y = y} {z = z} {i = i} {j = j} {f = f} {g = g} u v w) = go (nat_le 21 (precedence z)) refl
  where
    go : (t : Bool) → nat_le 21 (precedence z) ≡ t → Looser (expr y i f) (cond t (expr Member true g) (expr Expression j g))
    go true e = looser (looser_member (precedence y) (precedence z) u e) (implies_true i) w
      where
        implies_true : (b : Bool) → IsTrue (implies b true)
        implies_true true = refl
        implies_true false = refl
    go false e = looser (looser_all (precedence y)) v w
cell-looser (looser_spine w) = looser_spine w
cell-looser (looser_pattern w) = looser_pattern w

-- the ways to spell a node: none; one; or, where there may be two, two, of which the first stands wherever the second does,
-- is looser there, and names the same parts
abbrev pub Covers : Spelling → Spelling → Type 0
Covers x y = (a c : Role) → Looser a c → IsTrue (fits a y) → IsTrue (fits c x) × AllLooser (roles (settled a y)) (roles (settled c x))

pub data Tidy : Bool → List Spelling → Type 0 where
  none_at_all : {t : Bool} → Tidy t []
  one_way : {t : Bool} {x : Spelling} → NotNew x → Tidy t (x ∷ [])
  two_ways : {x y : Spelling} → NotNew x → Covers x y → AlikeAnywhere x y → Tidy true (x ∷ y ∷ [])

abbrev pub ways_of : Role → List Spelling → List (List (PieceOf Role))
ways_of a xs = map (settled a) (filter (fits a) xs)

-- a way among those of one spelling, or of two, is that of one that fits
pub Among-one : {qs : List (PieceOf Role)} (a : Role) (x : Spelling) (t : Bool) → fits a x ≡ t → Among qs (map (settled a) (cond t (x ∷ []) [])) → IsTrue (fits a x) × (qs ≡ settled a x)
Among-one a x true e first = (e, refl)
Among-one a x true e (later h) = elim h [ ]
Among-one a x false e h = elim h [ ]

pub Among-two : {qs : List (PieceOf Role)} (a : Role) (x y : Spelling) (t u : Bool) → fits a x ≡ t → fits a y ≡ u →
    Among qs (map (settled a) (cond t (x ∷ cond u (y ∷ []) []) (cond u (y ∷ []) []))) →
    (IsTrue (fits a x) × (qs ≡ settled a x)) ⊎ (IsTrue (fits a y) × (qs ≡ settled a y))
Among-two a x y true u e d first = inl (e, refl)
Among-two a x y true true e d (later first) = inr (d, refl)
Among-two a x y true true e d (later (later h)) = elim h [ ]
Among-two a x y true false e d (later h) = elim h [ ]
Among-two a x y false true e d first = inr (d, refl)
Among-two a x y false true e d (later h) = elim h [ ]
Among-two a x y false false e d h = elim h [ ]

module _ (cost : List Role → Option ℕ) (m : ℕ) (b c : Role) where
  pub finish : (v w : Bool) (x : Spelling) (A B C D : List Spelling) → v ≡ true → w ≡ true → AtMost (cost (roles (settled c x))) m →
      AtMost (if_any (map (settled b) (cond v (x ∷ A) B)) (cost (first_roles (map (settled c) (cond w (x ∷ C) D))))) m
  unfolding if_any
  finish true true x A B C D p q h = h
  finish true false x A B C D p q h = cc q
  finish false w x A B C D p q h = cc p

  pub dominated-list : {t : Bool} (xs : List Spelling) → Tidy t xs → (a : Role) (qs : List (PieceOf Role)) → Looser a b → Looser a c → Among qs (ways_of a xs) →
      ((rs : List Role) → AllLooser (roles qs) rs → AtMost (cost rs) m) → AtMost (if_any (ways_of b xs) (cost (first_roles (ways_of c xs)))) m
  dominated-list _ none_at_all a qs l k h f = elim h [ ]
  dominated-list _ (one_way {x = x} n) a qs l k h f =
      let p = Among-one a x (fits a x) refl h in
      finish (fits b x) (fits c x) x [] [] [] [] (fits-looser x n l p.0) (fits-looser x n k p.0)
      (f _ (subst (λ ys. AllLooser (roles ys) (roles (settled c x))) (sym p.1) (roles-looser x.pieces k)))
  dominated-list _ (two_ways {x = x} {y = y} n covers alike) a qs l k h f = choose (Among-two a x y (fits a x) (fits a y) refl refl h)
    where
      choose : (IsTrue (fits a x) × (qs ≡ settled a x)) ⊎ (IsTrue (fits a y) × (qs ≡ settled a y)) → AtMost (if_any (ways_of b (x ∷ y ∷ [])) (cost (first_roles (ways_of c (x ∷ y ∷ []))))) m
      choose (inl p) =
          finish (fits b x) (fits c x) x _ _ _ _ (fits-looser x n l p.0) (fits-looser x n k p.0)
          (f _ (subst (λ ys. AllLooser (roles ys) (roles (settled c x))) (sym p.1) (roles-looser x.pieces k)))
      choose (inr p) =
          finish (fits b x) (fits c x) x _ _ _ _ (covers a b l p.0).0 (covers a c k p.0).0
          (f _ (subst (λ ys. AllLooser (roles ys) (roles (settled c x))) (sym p.1) (covers a c k p.0).1))

-- looser positions have the same table
pub spellings-looser : (a b : Role) (n : Tree) → Looser a b → spellings a n ≡ spellings b n
unfolding spellings
spellings-looser a b n same = refl
spellings-looser a b (node k w g s e ps) (looser u v x) = refl
spellings-looser a b (node k w g s e ps) (looser_spine x) = refl
spellings-looser a b (node k w g s e ps) (looser_pattern x) = refl

-- the table is tidy at each position
abbrev pub TidyTable : Type 0
TidyTable = (a : Role) (n : Tree) → Tidy (has_two_ways n) (spellings a n)

pub dominated : TidyTable → Dominated
unfolding ways ways_bare
dominated tidy n a b qs l h m f = go (is_lean (bare n)) h
  where
    go : (t : Bool) → Among qs (cond t (ways_of a (spellings a (bare n))) []) →
        AtMost (if_any (cond t (ways_of b (spellings b (bare n))) []) (parts_least (parts_of n) (first_roles (cond t (ways_of (cell_position b) (spellings (cell_position b) (bare n))) [])))) m
    go false k = elim k [ ]
    go true k =
        rw (← spellings-looser a b (bare n) l, ← spellings-looser a (cell_position b) (bare n) (cell-looser l))
        (dominated-list (parts_least (parts_of n)) m b (cell_position b) (spellings a (bare n)) (tidy a (bare n)) a qs l (cell-looser l) k f)
