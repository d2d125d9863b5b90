-- A pattern, piece by piece.
use Rattle.std.proofs.Common.{◌≡◌, ℕ, ◌+◌, Bool, true, false, ◌||◌, List, [], ◌∷◌, ◌++◌, length, Some, None, refl, ap, ◌∙◌, arith}
use Rattle.std.specs.Str.{chars}
use Rattle.source_text.specs.Source.{IsPlace}
use Rattle.tokens.specs.Tokens.{size}
use Rattle.tokens.specs.Reading.{behind}
use Rattle.tokens.specs.Scanned.{Passed}
use Rattle.tokens.proofs.PassedCharacters.{passed_none, passed_on, size_append}
use Rattle.regular_expressions.specs.Terms.{Piece, bar, closing, assertion, looking, grouping, capturing, naming, repeating, atom, reference, name_reference, piece}
use Rattle.regular_expressions.specs.Patterns.{Placed, with_piece, read_of, pieces_from, pieces_of, Nested, outermost, nest, misplaced, first_wrong}
use Rattle.regular_expressions.specs.Scanned.{IsRead, refers}
use Rattle.regular_expressions.proofs.Productions.{read_length}

-- ---- the pieces from a place on

pub pieces_skip : (u : Bool) (at : ℕ) (word rest : List ℕ) → pieces_from u (length word) at (word ++ rest) ≡ pieces_from u 0 (at + size word) rest
pieces_skip u at [] rest = let e : at ≡ at + size [] = omega arith in ap (λ n. pieces_from u 0 n rest) e
pieces_skip u at (c ∷ word) rest =
    let n = size_append (c ∷ []) word in
    let e : at + size (c ∷ []) + size word ≡ at + size (c ∷ word) = omega arith in
    pieces_skip u (at + size (c ∷ [])) word rest ∙ ap (λ k. pieces_from u 0 k rest) e

pub piece_stands : (u : Bool) (text : List ℕ) (at more stop c : ℕ) (p : Piece) → Passed text at more (c ∷ []) → IsRead (piece u c (behind text more)) p text more stop →
    pieces_from u 0 at (behind text at) ≡ (at, Some p) ∷ pieces_from u 0 stop (behind text stop)
piece_stands u text at more stop c p one h =
    let cs = behind text more in
    let rest = behind text stop in
    let a = one.reaches in
    let b = h.passed.reaches in
    let e : at + size (c ∷ []) + size h.word ≡ stop = omega arith in
    ap (λ x. pieces_from u 0 at x) one.split
    ∙ ap (λ o. with_piece at o (pieces_from u (read_of cs o) (at + size (c ∷ [])) cs)) h.found
    ∙ ap (λ k. (at, Some p) ∷ pieces_from u k (at + size (c ∷ [])) cs) (read_length text more stop h.word h.passed)
    ∙ ap (λ x. (at, Some p) ∷ pieces_from u (length h.word) (at + size (c ∷ [])) x) h.passed.split
    ∙ ap (λ x. (at, Some p) ∷ x) (pieces_skip u (at + size (c ∷ [])) h.word rest ∙ ap (λ k. pieces_from u 0 k rest) e)

pub no_piece : (u : Bool) (text : List ℕ) (at more c : ℕ) → Passed text at more (c ∷ []) → piece u c (behind text more) ≡ None →
    pieces_from u 0 at (behind text at) ≡ (at, None) ∷ []
no_piece u text at more c one e =
    let cs = behind text more in
    ap (λ x. pieces_from u 0 at x) one.split ∙ ap (λ o. with_piece at o (pieces_from u (read_of cs o) (at + size (c ∷ [])) cs)) e

pub pieces_end : (u : Bool) (text : List ℕ) (at : ℕ) → behind text at ≡ [] → pieces_from u 0 at (behind text at) ≡ []
pieces_end u text at e = ap (λ x. pieces_from u 0 at x) e

-- ---- where a pattern isn't derived

-- a piece that refers to no group and names none is no early error
pub plain_piece : (g : ℕ) (n : List (List ℕ)) (at : ℕ) (p : Piece) (ps : List Placed) → refers p ≡ false → first_wrong g n [] ((at, Some p) ∷ ps) ≡ first_wrong g n [] ps
plain_piece g n at bar ps e = refl
plain_piece g n at closing ps e = refl
plain_piece g n at assertion ps e = refl
plain_piece g n at looking ps e = refl
plain_piece g n at grouping ps e = refl
plain_piece g n at capturing ps e = refl
plain_piece g n at (naming name) ps e = absurd (true_is_false e) where
  true_is_false : true ≡ false → ⊥
  true_is_false e = cc
plain_piece g n at repeating ps e = refl
plain_piece g n at atom ps e = refl
plain_piece g n at (reference k) ps e = absurd (true_is_false e) where
  true_is_false : true ≡ false → ⊥
  true_is_false e = cc
plain_piece g n at (name_reference name) ps e = absurd (true_is_false e) where
  true_is_false : true ≡ false → ⊥
  true_is_false e = cc

-- read up to a place, where the pieces so far make this
pub record InPattern (u : Bool) (text : List ℕ) (at : ℕ) (z : Nested) (has_references : Bool) : Type 0 where
  pub word : List ℕ
  pub passed : Passed text 0 at word
  pub last : ℕ
  pub same : misplaced (size (chars text)) 0 (Some outermost) (pieces_of u (chars text)) ≡ misplaced (size (chars text)) last (Some z) (pieces_from u 0 at (behind text at))
  pub plain : has_references ≡ false → (g : ℕ) (n : List (List ℕ)) → first_wrong g n [] (pieces_of u (chars text)) ≡ first_wrong g n [] (pieces_from u 0 at (behind text at))

pub pattern_begins : (u : Bool) (text : List ℕ) → IsPlace text 0 → InPattern u text 0 outermost false
pattern_begins u text p = record { word = []; passed = passed_none text 0 p; last = 0; same = refl; plain = λ e g n. refl }

-- no piece stands there
pub pattern_stops : (u : Bool) (text : List ℕ) (at more c : ℕ) (z : Nested) (has_references : Bool) → InPattern u text at z has_references → Passed text at more (c ∷ []) →
    piece u c (behind text more) ≡ None → misplaced (size (chars text)) 0 (Some outermost) (pieces_of u (chars text)) ≡ Some at
pattern_stops u text at more c z has_references h one e = h.same ∙ ap (λ ps. misplaced (size (chars text)) h.last (Some z) ps) (no_piece u text at more c one e)

-- the piece can't stand there
pub pattern_breaks : (u : Bool) (text : List ℕ) (at more stop c : ℕ) (z : Nested) (has_references : Bool) (p : Piece) → InPattern u text at z has_references → Passed text at more (c ∷ []) →
    IsRead (piece u c (behind text more)) p text more stop → nest z p ≡ None → misplaced (size (chars text)) 0 (Some outermost) (pieces_of u (chars text)) ≡ Some at
pattern_breaks u text at more stop c z has_references p h one r e =
    h.same ∙ ap (λ ps. misplaced (size (chars text)) h.last (Some z) ps) (piece_stands u text at more stop c p one r)
    ∙ ap (λ o. misplaced (size (chars text)) at o (pieces_from u 0 stop (behind text stop))) e

pub pattern_goes_on : (u : Bool) (text : List ℕ) (at more stop c : ℕ) (z w : Nested) (has_references : Bool) (p : Piece) → InPattern u text at z has_references → Passed text at more (c ∷ []) →
    IsRead (piece u c (behind text more)) p text more stop → nest z p ≡ Some w → InPattern u text stop w (has_references || refers p)
pattern_goes_on u text at more stop c z w has_references p h one r e = record {
  word = h.word ++ (c ∷ r.word);
  passed = passed_on text 0 at stop h.word (c ∷ r.word) h.passed (passed_on text at more stop (c ∷ []) r.word one r.passed);
  last = at;
  same = h.same ∙ ap (λ ps. misplaced (size (chars text)) h.last (Some z) ps) (piece_stands u text at more stop c p one r)
      ∙ ap (λ o. misplaced (size (chars text)) at o (pieces_from u 0 stop (behind text stop))) e;
  plain = λ f g n. h.plain (left has_references (refers p) f) g n ∙ ap (λ ps. first_wrong g n [] ps) (piece_stands u text at more stop c p one r)
      ∙ plain_piece g n at p (pieces_from u 0 stop (behind text stop)) (right has_references (refers p) f);
} where
  left : (a b : Bool) → (a || b) ≡ false → a ≡ false
  left true b e = cc
  left false b e = refl

  right : (a b : Bool) → (a || b) ≡ false → b ≡ false
  right true b e = cc
  right false b e = e
