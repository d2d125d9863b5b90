-- The ends of comments and of parts of templates, character by character; `proofs` shows that they are those of the definitions.
use Rattle.std.specs.Prelude.{ℕ, Bool, false, not, ◌&&◌, ◌||◌, List, [], ◌∷◌, nat_le, if◌then◌else◌}
use Rattle.tokens.specs.Alphabet.{one_of, is_empty}

-- the text ends with the first `*/`; the flag says whether `*` stands before it
abbrev pub closes_from : Bool → List ℕ → Bool
closes_from starred [] = false
closes_from starred (c ∷ cs) = if starred && one_of "/" c then is_empty cs else closes_from (one_of "*" c) cs

-- a character of ASCII that ends neither a line nor a string, and begins neither `*/` nor an escape
abbrev pub is_plain : ℕ → Bool
is_plain c = nat_le 32 c && nat_le c 126 && not (one_of "\"'*\\" c)

-- A part of a template behind its first character ends with the first grave accent or `${` that no backslash takes; the flags say whether a
-- backslash or `$` stands before the text.
abbrev pub ends_part : Bool → Bool → List ℕ → Bool
ends_part taken dollar [] = false
ends_part taken dollar (c ∷ cs) =
    if not taken && (one_of "`" c || (dollar && one_of "{" c)) then is_empty cs
    else ends_part (not taken && one_of "\\" c) (not taken && one_of "$" c) cs
