-- Digits of a NumericLiteral (ECMA-262, 13th edition, 12.9.3), as characters.
use Rattle.std.specs.Prelude.{ℕ, List, [], ◌∷◌, if◌then◌else◌}
use Rattle.tokens.specs.Alphabet.{one_of}

-- without its NumericLiteralSeparators
abbrev pub without_separators : List ℕ → List ℕ
without_separators [] = []
without_separators (c ∷ cs) = if one_of "_" c then without_separators cs else c ∷ without_separators cs

-- without zeros at the beginning
abbrev pub without_zeros : List ℕ → List ℕ
without_zeros [] = []
without_zeros (c ∷ cs) = if one_of "0" c then without_zeros cs else c ∷ cs

-- a digit before those that are left
abbrev pub behind_digit : ℕ → List ℕ → List ℕ
behind_digit c [] = if one_of "0" c then [] else c ∷ []
behind_digit c (d ∷ ds) = c ∷ d ∷ ds

-- without zeros at the end
abbrev pub trimmed : List ℕ → List ℕ
trimmed [] = []
trimmed (c ∷ cs) = behind_digit c (trimmed cs)
