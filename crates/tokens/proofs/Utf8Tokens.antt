-- The characters of a token that is read are those of a text in UTF-8, and so is its text.
use Rattle.std.proofs.Common.{◌≡◌, ℕ, Bool, true, false, ◌&&◌, List, [], ◌∷◌, ◌++◌, drop, refl, sym, ap, ◌∙◌}
use Rattle.std.specs.Str.{IsUtf8}
use Rattle.std.proofs.Math.Utf8.{scalars, scalar}
use Rattle.std.proofs.lemmas.Str.{scalars-chars, IsUtf8-drop}
use Rattle.source_text.specs.Source.{IsPlace}
use Rattle.tokens.specs.Goals.{Goal}
use Rattle.tokens.specs.Tokens.{LexicalToken}
use Rattle.tokens.specs.Reading.{behind, Reads}

pub both_scalars : (xs ys : List ℕ) → scalars (xs ++ ys) ≡ true → (scalars xs ≡ true) × (scalars ys ≡ true)
both_scalars [] ys h = (refl, h)
both_scalars (x ∷ xs) ys h =
    let u = parts (scalar x) (scalars (xs ++ ys)) h in
    let v = both_scalars xs ys u.1 in
    (ap (λ b. b && scalars xs) u.0 ∙ v.0, v.1)
  where
    parts : (a b : Bool) → (a && b) ≡ true → (a ≡ true) × (b ≡ true)
    parts true b e = (refl, e)
    parts false b e = cc

pub word_scalars : (text : List ℕ) (goal : Goal) (at : ℕ) (t : LexicalToken) → IsUtf8 text → IsPlace text at → (h : Reads text goal at t) → scalars h.word ≡ true
word_scalars text goal at t u p h =
    let whole = scalars-chars (drop at text) (IsUtf8-drop text at u p) in
    let front = (both_scalars (h.gap ++ h.word) (behind text t.stop) (ap scalars (sym h.split) ∙ whole)).0 in
    (both_scalars h.gap h.word front).1
