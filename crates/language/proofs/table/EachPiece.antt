-- A test of single pieces holds of all pieces of a form if it holds over the form's shape, where it computes.
use Rattle.std.proofs.Common.{◌≡◌, ℕ, Bool, true, List, [], ◌∷◌, refl, ap, ◌∙◌, subst, append-nil}
use Rattle.std.specs.Prelude.{◌&&◌}
use Rattle.std.proofs.lemmas.Bool.{and_parts, and_from}
use Rattle.tree.specs.declared.kind.Flags.{Flags}
use Rattle.tree.specs.Tree.{Parts}
use Rattle.language.specs.Pieces.{Ending, Piece, ending}
use Rattle.language.specs.Forms.{Item, OwnText, own_piece, pieces_of}
use Rattle.language.proofs.table.Shapes.{Shape, empty, piece, own, an_ending, then, or, many_of, Fits, nothing, a_piece, an_own, ended, both, at_left, at_right, stop, more, shape_of, items_spelled}

abbrev pub each : (Piece → Bool) → List Piece → Bool
each f [] = true
each f (q ∷ qs) = f q && each f qs

-- a test of pieces, and what it says of those made of the node's own text, and of endings
pub record PieceTest : Type 0 where
  pub test : Piece → Bool
  pub of_own : OwnText → Bool
  pub of_endings : Bool
  pub own_so : (w : List ℕ) (o : OwnText) → of_own o ≡ true → test (own_piece o w) ≡ true
  pub endings_so : (e : Ending) → of_endings ≡ true → test (ending e) ≡ true

abbrev pub passes : (Piece → Bool) → (OwnText → Bool) → Bool → Shape → Bool
passes f o e empty = true
passes f o e (piece q) = f q
passes f o e (own t) = o t
passes f o e an_ending = e
passes f o e (then r s) = passes f o e r && passes f o e s
passes f o e (or r s) = passes f o e r && passes f o e s
passes f o e (many_of r) = passes f o e r

module _ (t : PieceTest) (w : List ℕ) where
  each_fits : {r : Shape} {xs ys : List Piece} → Fits w r xs ys → passes t.test t.of_own t.of_endings r ≡ true → each t.test ys ≡ true → each t.test xs ≡ true
  each_fits nothing h k = k
  each_fits a_piece h k = and_from _ _ h k
  each_fits (an_own {o = o} e) h k = and_from _ _ (ap t.test e ∙ t.own_so w o h) k
  each_fits (ended {e = e}) h k = and_from _ _ (t.endings_so e h) k
  each_fits (both u v) h k = let p = and_parts _ _ h in each_fits u p.0 (each_fits v p.1 k)
  each_fits (at_left u) h k = each_fits u ((and_parts _ _ h).0) k
  each_fits (at_right u) h k = each_fits u ((and_parts _ _ h).1) k
  each_fits stop h k = k
  each_fits (more u v) h k = each_fits u h (each_fits v h k)

  pub each_of : (xs : List Item) (g : Flags) (ps : Parts) → passes t.test t.of_own t.of_endings (shape_of xs) ≡ true → each t.test (pieces_of xs w g ps) ≡ true
  each_of xs g ps h = subst (λ u. each t.test u ≡ true) (append-nil _) (each_fits ((items_spelled xs g ps).fits []) h refl)
