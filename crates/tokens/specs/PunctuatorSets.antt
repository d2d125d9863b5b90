-- Punctuators of one, two, three and four characters, by their last characters; `Punctuators` of `proofs` shows that they are those of `Lexical`.
use Rattle.std.specs.Prelude.{ℕ, Bool, ◌&&◌, ◌||◌, ◌==◌, List, [], ◌∷◌, if◌then◌else◌, codes}
use Rattle.tokens.specs.Alphabet.{one_of, is_among, is_decimal_digit}

-- the next character, or 0 at the end
abbrev pub front : List ℕ → ℕ
front [] = 0
front (c ∷ cs) = c

abbrev pub tail : List ℕ → List ℕ
tail [] = []
tail (c ∷ cs) = cs

abbrev pub is_single : ℕ → Bool
is_single b = one_of "{}()[];,:~.?<>+-*%&|^!=/" b

-- the punctuators of one character that begin no other
abbrev pub alone : List ℕ
alone = codes "{}()[];,:~"

-- a decimal digit, or what may stand second in a punctuator
abbrev pub goes_on : ℕ → Bool
goes_on c = is_decimal_digit c || one_of "=>.+-*<&|?" c

-- what may stand before the second character
abbrev pub firsts : ℕ → List ℕ
firsts c =
    if c == 61 then codes "<>=!+-*%&|^/" else if c == 62 then codes "=>" else if c == 46 then codes "?" else if c == 43 then codes "+" else if c == 45 then codes "-"
    else if c == 42 then codes "*" else if c == 60 then codes "<" else if c == 38 then codes "&" else if c == 124 then codes "|" else if c == 63 then codes "?" else []

abbrev pub is_pair : ℕ → ℕ → Bool
is_pair b c = is_among b (firsts c)

-- what may stand before the second and the third
abbrev pub firsts_of_three : ℕ → ℕ → List ℕ
firsts_of_three c d =
    if d == 61 then (if c == 61 then codes "=!" else if c == 42 then codes "*" else if c == 60 then codes "<" else if c == 62 then codes ">"
    else if c == 38 then codes "&" else if c == 124 then codes "|" else if c == 63 then codes "?" else [])
    else if d == 46 then (if c == 46 then codes "." else []) else if d == 62 then (if c == 62 then codes ">" else []) else []

abbrev pub is_triple : ℕ → ℕ → ℕ → Bool
is_triple b c d = is_among b (firsts_of_three c d)

abbrev pub is_quadruple : ℕ → ℕ → ℕ → ℕ → Bool
is_quadruple b c d e = ((b == 62) && (c == 62)) && ((d == 62) && (e == 61))
