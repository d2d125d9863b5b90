-- StringLiteral (ECMA-262 11.8.4).
use Rattle.std.specs.Prelude.{ℕ, zero, suc, ◌-◌, Bool, false, not, ◌&&◌, ◌||◌, ◌==◌, List, [], ◌∷◌, length, take, unwrap_or, is_some, if◌then◌else◌}
use Rattle.tokens.specs.Alphabet.{one_of, is_empty, line_feed, carriage_return}
use Rattle.tokens.specs.Escapes.{piece, more_of, unescaped}

-- Behind a quote of this kind: DoubleStringCharacters or SingleStringCharacters, and the quote that ends the text. The first so many
-- characters belong to an escape before them. U+2028 and U+2029 may stand as they are.
abbrev pub closes_string : ℕ → ℕ → List ℕ → Bool
closes_string quote skipped [] = false
closes_string quote (suc skipped) (c ∷ cs) = closes_string quote skipped cs
closes_string quote zero (c ∷ cs) =
    if c == quote then is_empty cs
    else not (c == line_feed || c == carriage_return) && is_some (piece c cs) && closes_string quote (more_of (piece c cs)) cs

abbrev pub is_string : List ℕ → Bool
is_string [] = false
is_string (quote ∷ cs) = one_of "'\"" quote && closes_string quote 0 cs

-- what stands between the quotes
abbrev pub string_contents : List ℕ → List ℕ
string_contents [] = []
string_contents (quote ∷ cs) = take (length cs - 1) cs

-- SV (11.8.4): the units of UTF-16 of a string token's text
abbrev pub string_units : List ℕ → List ℕ
string_units text = unwrap_or (unescaped (string_contents text)) []
