-- The words of a comment: what stands between white space, line ends and commas.
use Rattle.std.specs.Prelude.{ℕ, ◌+◌, ◌-◌, Bool, ◌&&◌, ◌||◌, cond, length, nat_eq, nat_lt, slice_index, slice_range, List, [], ◌∷◌, ◌++◌}
use Rattle.std.specs.Str.{chars}
use Rattle.source_text.specs.Lines.{is_line_terminator}
use Rattle.tokens.specs.Alphabet.{one_of, is_white_space}
use Rattle.tokens.specs.Tokens.{size}
use Rattle.text_rules.specs.Gaps.{piece}

-- the comment begins with `/*`
abbrev pub is_block : List ℕ → Bool
is_block comment = nat_lt 1 (length comment) && nat_eq (slice_index comment 1) 0x2A

-- what stands between the marks with which a comment begins and ends
abbrev pub body : List ℕ → List ℕ
body comment = cond (is_block comment) (piece comment 2 (length comment - 2)) (piece comment 2 (length comment))

abbrev pub is_gap : ℕ → Bool
is_gap c = one_of "," c || (is_white_space c || is_line_terminator c)

-- the word between two places of a text, if there is one
abbrev pub word : List ℕ → (from to : ℕ) → List (List ℕ)
word text from to = cond (nat_lt from to) (slice_range text from to ∷ []) []

-- the words of a text that end in these characters, the first of which stands at a place; a word may have begun before it
abbrev pub words_from : List ℕ → (from at : ℕ) → List ℕ → List (List ℕ)
words_from text from at [] = word text from at
words_from text from at (c ∷ cs) =
    cond (is_gap c)
    (word text from at ++ words_from text (at + size (c ∷ [])) (at + size (c ∷ [])) cs)
    (words_from text from (at + size (c ∷ [])) cs)

abbrev pub words : List ℕ → List (List ℕ)
words text = words_from text 0 0 (chars text)

-- a word with which the reason begins
abbrev pub begins_reason : List ℕ → Bool
begins_reason word = nat_lt 1 (length word) && (nat_eq (slice_index word 0) 0x2D && nat_eq (slice_index word 1) 0x2D)
