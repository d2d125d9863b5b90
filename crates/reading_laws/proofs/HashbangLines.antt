-- The line of `#!` stands at the beginning of a text, and its end is a place of the text.
use Rattle.std.proofs.Common.{◌≡◌, ℕ, ◌+◌, Bool, true, false, cond, ◌&&◌, List, [], ◌∷◌, ◌++◌, refl, ap, subst, arith}
use Rattle.std.specs.Str.{chars, IsUtf8}
use Rattle.std.proofs.lemmas.Str.{IsCharBoundary-start}
use Rattle.source_text.specs.Lines.{is_line_terminator}
use Rattle.source_text.specs.Source.{IsPlace}
use Rattle.tokens.specs.Alphabet.{one_of}
use Rattle.tokens.specs.Comments.{first_line, hashbang}
use Rattle.tokens.specs.Scanned.{Passed}
use Rattle.tokens.specs.Tokens.{size}
use Rattle.tokens.proofs.Bounds.{pass_word}
use Rattle.language.specs.declared.Language.{Language}
use Rattle.language.specs.Cursor.{beginning}
use Rattle.language.specs.Languages.{beginning_in, is_of_2022}

first_line_there : (cs : List ℕ) → (rest : List ℕ) × (cs ≡ first_line cs ++ rest)
first_line_there [] = ([], refl)
first_line_there (c ∷ cs) = of (is_line_terminator c) (first_line_there cs)
  where
    of : (b : Bool) → (rest : List ℕ) × (cs ≡ first_line cs ++ rest) → (rest : List ℕ) × (c ∷ cs ≡ cond b [] (c ∷ first_line cs) ++ rest)
    of true h = (c ∷ cs, refl)
    of false h = (h.0, ap (λ x. c ∷ x) h.1)

hashbang_there : (cs : List ℕ) → (rest : List ℕ) × (cs ≡ hashbang cs ++ rest)
hashbang_there [] = ([], refl)
hashbang_there (c ∷ []) = (c ∷ [], refl)
hashbang_there (c ∷ d ∷ cs) = of (one_of "#" c && one_of "!" d) (first_line_there cs)
  where
    of : (b : Bool) → (rest : List ℕ) × (cs ≡ first_line cs ++ rest) → (rest : List ℕ) × (c ∷ d ∷ cs ≡ cond b (c ∷ d ∷ first_line cs) [] ++ rest)
    of true h = (h.0, ap (λ x. c ∷ d ∷ x) h.1)
    of false h = (c ∷ d ∷ cs, refl)

pub hashbang_passed : (text : List ℕ) → IsUtf8 text → Passed text 0 (size (hashbang (chars text))) (hashbang (chars text))
hashbang_passed text u =
    let line = hashbang (chars text) in
    let h = hashbang_there (chars text) in
    let stop : 0 + size line ≡ size line = omega arith in
    subst (λ at. Passed text 0 at line) stop (pass_word text 0 line h.0 u (IsCharBoundary-start text u) h.1)

-- so a language begins to read a text at one of its places
pub first_is_place : (language : Language) (text : List ℕ) → IsUtf8 text → IsPlace text (beginning_in language text).stop
first_is_place language text u = of (is_of_2022 language)
  where
    of : (b : Bool) → IsPlace text (cond b (record beginning { stop = size (hashbang (chars text)) }) beginning).stop
    of true = (hashbang_passed text u).place
    of false = IsCharBoundary-start text u
