-- Parts of templates (ECMA-262 11.8.6).
use Rattle.std.specs.Prelude.{◌≡◌, ℕ, Bool, true, false, ◌&&◌, ◌==◌, List, [], ◌∷◌, ◌++◌, drop, Option, if◌then◌else◌}
use Rattle.tokens.specs.Alphabet.{one_of, begins_with, is_empty, line_feed, carriage_return}
use Rattle.tokens.specs.Escapes.{unescaped}

-- TemplateCharacters, and the grave accent or `${` that ends the text; a backslash takes the first of them, where the flag says so
abbrev pub closes_template : Bool → List ℕ → Bool
closes_template taken [] = false
closes_template true (c ∷ cs) = closes_template false cs
closes_template false (c ∷ cs) =
    if one_of "`" c then is_empty cs
    else if one_of "$" c && begins_with (one_of "{") cs then is_empty (drop 1 cs)
    else closes_template (one_of "\\" c) cs

-- NoSubstitutionTemplate and TemplateHead, from a grave accent; TemplateMiddle and TemplateTail, from `}`
abbrev pub is_template : List ℕ → Bool
is_template [] = false
is_template (c ∷ cs) = one_of "`}" c && closes_template false cs

-- CR LF and CR become LF: what becomes of a character, where a flag says that CR stands before it
abbrev pub line_end_turned : Bool → ℕ → List ℕ
line_end_turned returned c = if returned && (c == line_feed) then [] else if c == carriage_return then line_feed ∷ [] else c ∷ []

abbrev pub raw_after : Bool → List ℕ → List ℕ
raw_after returned [] = []
raw_after returned (c ∷ cs) = line_end_turned returned c ++ raw_after (c == carriage_return) cs

-- TRV (11.8.6.1), in characters, of a part without its delimiters
abbrev pub raw_value : List ℕ → List ℕ
raw_value text = raw_after false text

-- TV (11.8.6.1), in units of UTF-16, of a part without its delimiters: none where an escape is bad
abbrev pub cooked_value : List ℕ → Option (List ℕ)
cooked_value text = unescaped (raw_value text)

-- a text's raw value, handed in again, gives the same two: it is its own raw value, and has the text's cooked value
abbrev pub IsSettled : List ℕ → List ℕ → Type 0
IsSettled text raw = (raw_value raw ≡ raw) × (cooked_value raw ≡ cooked_value text)
