-- Where the tokens of two texts begin behind the same bytes, they begin behind the same line of `#!`, or none.
use Rattle.std.proofs.Common.{◌≡◌, ℕ, Bool, true, false, cond, ◌||◌, List, [], ◌∷◌, ◌++◌, refl, sym, ap, ◌∙◌}
use Rattle.std.specs.Prelude.{encode_utf8_all, slice_range}
use Rattle.std.specs.Str.{chars, IsUtf8}
use Rattle.std.proofs.Math.Utf8.{scalars}
use Rattle.std.proofs.lemmas.Bool.{and_parts, and_from}
use Rattle.std.proofs.lemmas.Str.{IsCharBoundary-start, scalars-chars, chars_from_encodes}
use Rattle.tokens.specs.Comments.{hashbang}
use Rattle.tokens.specs.Scanned.{Passed}
use Rattle.tokens.specs.Tokens.{size}
use Rattle.tokens.proofs.PassedCharacters.{passed_none, passed_slice}
use Rattle.tree.specs.Tree.{Tree, text_of}
use Rattle.language.specs.Vocabulary.{is}
use Rattle.reading_laws.specs.TreeReadings.{hashbang_line}
use Rattle.reading_laws.proofs.HashbangLines.{hashbang_passed}
use Rattle.unwrapping.specs.Readings.{bytes_in}
use Rattle.unwrapping.specs.Comparing.{BeginsAlike}

-- the line of a tree stands at the beginning
line_passed : (n : Tree) (text : List ℕ) → IsUtf8 text → Passed text 0 (size (hashbang_line n text)) (hashbang_line n text)
line_passed n text u = of (is (text_of n) "2022" || is (text_of n) "module")
  where
    of : (b : Bool) → Passed text 0 (size (cond b (hashbang (chars text)) [])) (cond b (hashbang (chars text)) [])
    of true = hashbang_passed text u
    of false = passed_none text 0 (IsCharBoundary-start text u)

scalars_front : (v w : List ℕ) → scalars (v ++ w) ≡ true → scalars v ≡ true
scalars_front [] w h = refl
scalars_front (c ∷ v) w h = let u = and_parts _ _ h in and_from _ _ u.0 (scalars_front v w u.1)

-- its characters are those of its bytes
line_of_bytes : (n : Tree) (text : List ℕ) → IsUtf8 text → hashbang_line n text ≡ chars (encode_utf8_all (hashbang_line n text))
line_of_bytes n text u =
    let line = hashbang_line n text in
    let known : scalars line ≡ true = scalars_front line _ (ap scalars (sym (line_passed n text u).split) ∙ scalars-chars text u) in
    chars_from_encodes line (encode_utf8_all line) (line, (known, refl)) refl

line_bytes : (n : Tree) (text : List ℕ) (from : ℕ) → IsUtf8 text → from ≡ size (hashbang_line n text) → encode_utf8_all (hashbang_line n text) ≡ bytes_in text (record { start = 0; end = from })
line_bytes n text from u e = passed_slice text 0 (size (hashbang_line n text)) (hashbang_line n text) u (IsCharBoundary-start text u) (line_passed n text u) ∙ ap (slice_range text 0) (sym e)

pub lines_alike : (text unwrapped : List ℕ) (from from_again : ℕ) → IsUtf8 text → IsUtf8 unwrapped → bytes_in text (record { start = 0; end = from }) ≡ bytes_in unwrapped (record { start = 0; end = from_again }) → BeginsAlike text from unwrapped from_again
lines_alike text unwrapped from from_again u v same n again e f =
    line_of_bytes n text u ∙ ap chars (line_bytes n text from u e ∙ same ∙ sym (line_bytes again unwrapped from_again v f)) ∙ sym (line_of_bytes again unwrapped v)
