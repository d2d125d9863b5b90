-- A test of pieces that asks of each piece only one thing about what follows: it holds of all pieces of a form if it holds over the form's
-- shape, from its end to its beginning, where it computes.
use Rattle.std.proofs.Common.{◌≡◌, ℕ, Bool, true, false, List, [], ◌∷◌, sym, ap, ◌∙◌, subst, append-nil}
use Rattle.std.specs.Prelude.{◌&&◌}
use Rattle.std.proofs.lemmas.Bool.{and_parts}
use Rattle.tree.specs.declared.kind.Flags.{Flags}
use Rattle.tree.specs.Tree.{Parts}
use Rattle.language.specs.Pieces.{Ending, Piece, ending}
use Rattle.language.specs.Forms.{Item, OwnText, own_piece, pieces_of}
use Rattle.language.proofs.table.Shapes.{Shape, empty, piece, own, an_ending, then, or, many_of, Fits, nothing, a_piece, an_own, ended, both, at_left, at_right, stop, more, shape_of, items_spelled}

-- the pieces are good; and what is known of them, if the flag holds
pub record Before (good known : List Piece → Bool) (b : Bool) (qs : List Piece) : Type 0 where
  pub is_good : good qs ≡ true
  pub is_known : b ≡ true → known qs ≡ true

pub record SuffixTest (w : List ℕ) : Type 0 where
  pub good : List Piece → Bool
  pub known : List Piece → Bool
  -- whether a piece may stand before pieces of which that is known or not; and whether it is known then of it and them
  pub allows : Piece → Bool → Bool
  pub tells : Piece → Bool → Bool
  pub own_allows : OwnText → Bool → Bool
  pub own_tells : OwnText → Bool → Bool
  pub ending_allows : Bool → Bool
  pub ending_tells : Bool → Bool
  pub none_good : good [] ≡ true
  pub piece_so : (q : Piece) (b : Bool) (qs : List Piece) → allows q b ≡ true → Before good known b qs → Before good known (tells q b) (q ∷ qs)
  pub own_so : (o : OwnText) (b : Bool) → own_allows o b ≡ true → allows (own_piece o w) b ≡ true
  pub own_told : (o : OwnText) (b : Bool) → own_tells o b ≡ true → tells (own_piece o w) b ≡ true
  pub ending_so : (e : Ending) (b : Bool) → ending_allows b ≡ true → allows (ending e) b ≡ true
  pub ending_told : (e : Ending) (b : Bool) → ending_tells b ≡ true → tells (ending e) b ≡ true

module _ {w : List ℕ} (t : SuffixTest w) where
  abbrev pub tells_of : Shape → Bool → Bool
  tells_of empty b = b
  tells_of (piece q) b = t.tells q b
  tells_of (own o) b = t.own_tells o b
  tells_of an_ending b = t.ending_tells b
  tells_of (then r s) b = tells_of r (tells_of s b)
  tells_of (or r s) b = tells_of r b && tells_of s b
  tells_of (many_of r) b = b && tells_of r true

  -- of a list each part leaves it known, or may stand before anything
  abbrev pub allows_of : Shape → Bool → Bool
  allows_of empty b = true
  allows_of (piece q) b = t.allows q b
  allows_of (own o) b = t.own_allows o b
  allows_of an_ending b = t.ending_allows b
  allows_of (then r s) b = allows_of s b && allows_of r (tells_of s b)
  allows_of (or r s) b = allows_of r b && allows_of s b
  allows_of (many_of r) b = allows_of r (b && tells_of r true)

  abbrev Good : Bool → List Piece → Type 0
  Good b qs = Before t.good t.known b qs

  less : {b c : Bool} {qs : List Piece} → (c ≡ true → b ≡ true) → Good b qs → Good c qs
  less f h = record { is_good = h.is_good; is_known = λ e. h.is_known (f e) }

  stays : (r : Shape) (b : Bool) → (b && tells_of r true) ≡ true → tells_of r (b && tells_of r true) ≡ true
  stays r true e = ap (tells_of r) e ∙ e
  stays r false e = cc

  before : {r : Shape} {xs ys : List Piece} (b : Bool) → Fits w r xs ys → allows_of r b ≡ true → Good b ys → Good (tells_of r b) xs
  before b nothing h k = k
  before b (a_piece {q = q} {xs = xs}) h k = t.piece_so q b xs h k
  before b (an_own {o = o} {q = q} {xs = xs} e) h k = subst (λ z. Good (t.own_tells o b) (z ∷ xs)) (sym e) (less (t.own_told o b) (t.piece_so (own_piece o w) b xs (t.own_so o b h) k))
  before b (ended {e = e} {xs = xs}) h k = less (t.ending_told e b) (t.piece_so (ending e) b xs (t.ending_so e b h) k)
  before b (both {s = s} u v) h k = let p = and_parts _ _ h in before (tells_of s b) u p.1 (before b v p.0 k)
  before b (at_left {r = r} u) h k = less (λ e. (and_parts (tells_of r b) _ e).0) (before b u ((and_parts _ _ h).0) k)
  before b (at_right {r = r} u) h k = less (λ e. (and_parts (tells_of r b) _ e).1) (before b u ((and_parts _ _ h).1) k)
  before b (stop {r = r}) h k = less (λ e. (and_parts b _ e).0) k
  before b (more {r = r} u v) h k =
      let c : Bool = b && tells_of r true in
      less (stays r b) (before c u h (before b v h k))

  -- what a form makes of a node, before nothing
  pub form_before : (xs : List Item) (g : Flags) (ps : Parts) (b : Bool) → allows_of (shape_of xs) b ≡ true → Good b [] → Good (tells_of (shape_of xs) b) (pieces_of xs w g ps)
  form_before xs g ps b h k = subst (λ u. Good (tells_of (shape_of xs) b) u) (append-nil _) (before b ((items_spelled xs g ps).fits []) h k)

  pub good_form : (xs : List Item) (g : Flags) (ps : Parts) → allows_of (shape_of xs) false ≡ true → t.good (pieces_of xs w g ps) ≡ true
  good_form xs g ps h = (form_before xs g ps false h (record { is_good = t.none_good; is_known = λ e. cc })).is_good
