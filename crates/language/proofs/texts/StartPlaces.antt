-- Reading begins at a place of the text, behind the line of `#!` too.
use Rattle.std.proofs.Common.{◌≡◌, ℕ, Bool, true, false, cond, ◌&&◌, List, [], ◌∷◌, ◌++◌, refl, ap, subst, arith}
use Rattle.std.specs.Str.{chars, IsUtf8}
use Rattle.std.proofs.lemmas.Str.{IsCharBoundary-start}
use Rattle.source_text.specs.Lines.{is_line_terminator}
use Rattle.source_text.specs.Source.{IsPlace}
use Rattle.tokens.specs.Alphabet.{one_of}
use Rattle.tokens.specs.Comments.{first_line, hashbang}
use Rattle.tokens.specs.Tokens.{size}
use Rattle.tokens.proofs.Bounds.{pass_word}
use Rattle.language.specs.declared.Language.{Language}
use Rattle.language.specs.declared.Language.TheVariants.{Base, Script, Module}
use Rattle.language.specs.Languages.{beginning_in}

-- what stands before a line's end begins a text, and so does the line of `#!`
first_line_begins : (cs : List ℕ) → (rest : List ℕ) × (cs ≡ first_line cs ++ rest)
first_line_begins [] = ([], refl)
first_line_begins (c ∷ cs) = let u = first_line_begins cs in of (is_line_terminator c) u
  where
    of : (b : Bool) → (rest : List ℕ) × (cs ≡ first_line cs ++ rest) → (rest : List ℕ) × (c ∷ cs ≡ cond b [] (c ∷ first_line cs) ++ rest)
    of true u = (c ∷ cs, refl)
    of false u = (u.0, ap (λ x. c ∷ x) u.1)

hashbang_begins : (cs : List ℕ) → (rest : List ℕ) × (cs ≡ hashbang cs ++ rest)
hashbang_begins [] = ([], refl)
hashbang_begins (c ∷ []) = (c ∷ [], refl)
hashbang_begins (c ∷ d ∷ cs) = of (one_of "#" c && one_of "!" d) (first_line_begins cs)
  where
    of : (b : Bool) → (rest : List ℕ) × (cs ≡ first_line cs ++ rest) → (rest : List ℕ) × (c ∷ d ∷ cs ≡ cond b (c ∷ d ∷ first_line cs) [] ++ rest)
    of true u = (u.0, ap (λ x. c ∷ d ∷ x) u.1)
    of false u = (c ∷ d ∷ cs, refl)

-- the place before the first token
pub starting_place : (m : Language) (text : List ℕ) → IsUtf8 text → IsPlace text (beginning_in m text).stop
starting_place m text u = of m
  where
    start : IsPlace text 0
    start = IsCharBoundary-start text u

    behind_line : IsPlace text (size (hashbang (chars text)))
    behind_line = let h = hashbang_begins (chars text) in subst (λ k. IsPlace text k) (omega arith) (pass_word text 0 (hashbang (chars text)) h.0 u start h.1).place

    of : (m : Language) → IsPlace text (beginning_in m text).stop
    of Base = start
    of Script = behind_line
    of Module = behind_line
