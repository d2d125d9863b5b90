-- What ESTree says of the texts of literals, directives and templates. Texts are bytes in UTF-8.
use Rattle.std.specs.Prelude.{ℕ, Bool, true, false, ◌||◌, List, [], ◌∷◌, drop, bytes_eq, encode_utf8_all, Option, Some, None, if◌then◌else◌, codes}
use Rattle.std.specs.Str.{chars}
use Rattle.std.specs.Char.Utf16.{has_unpaired_surrogate, utf16_lossy_chars}
use Rattle.serde_json.specs.Data.{Data, null, boolean, string, object, Members, member, no_members}
use Rattle.tokens.specs.Alphabet.{one_of, begins_with}
use Rattle.tokens.specs.Strings.{string_units}
use Rattle.tokens.specs.Templates.{cooked_value}

-- the text of units of UTF-16: none where a surrogate has no partner
abbrev pub text_of_units : List ℕ → Option Data
text_of_units units = if has_unpaired_surrogate units then None else Some (string (encode_utf8_all (utf16_lossy_chars units)))

-- behind the last `/`, and before it
abbrev pub has_slash : List ℕ → Bool
has_slash [] = false
has_slash (c ∷ cs) = one_of "/" c || has_slash cs

abbrev pub after_slash : List ℕ → List ℕ
after_slash [] = []
after_slash (c ∷ cs) = if has_slash cs then after_slash cs else if one_of "/" c then cs else []

abbrev pub before_slash : List ℕ → List ℕ
before_slash [] = []
before_slash (c ∷ cs) = if has_slash cs then c ∷ before_slash cs else []

-- of `/pattern/flags`, behind the first `/`
abbrev pub regex_of : List ℕ → Data
regex_of w = object (member (codes "flags") (string (after_slash w)) (member (codes "pattern") (string (before_slash w)) no_members))

abbrev pub is_quoted : List ℕ → Bool
is_quoted w = begins_with (one_of "'\"") w

-- `value` of a literal: of strings in well-formed UTF-16, booleans and null; regular expressions and numbers have none
abbrev pub literal_value : List ℕ → Option Data
literal_value w =
    if is_quoted w then text_of_units (string_units (chars w))
    else if bytes_eq w (codes "true") then Some (boolean true)
    else if bytes_eq w (codes "false") then Some (boolean false)
    else if bytes_eq w (codes "null") then Some null
    else None

-- `regex` of a literal
abbrev pub literal_regex : List ℕ → Option Data
literal_regex w = if begins_with (one_of "/") w then Some (regex_of (drop 1 w)) else None

-- without a quote at its front, and without one at its end
abbrev pub without_first : List ℕ → List ℕ
without_first [] = []
without_first (c ∷ cs) = if one_of "'\"" c then cs else c ∷ cs

abbrev pub without_last : List ℕ → List ℕ
without_last [] = []
without_last (c ∷ []) = if one_of "'\"" c then [] else c ∷ []
without_last (c ∷ d ∷ ds) = c ∷ without_last (d ∷ ds)

-- the text of a directive, between its quotes
abbrev pub unquoted : List ℕ → List ℕ
unquoted w = without_last (without_first w)

-- `cooked` of a template's part: null where an escape is bad, none where it isn't well formed
abbrev pub cooked_of_units : Option (List ℕ) → Option Data
cooked_of_units None = Some null
cooked_of_units (Some units) = text_of_units units

abbrev pub with_cooked : Option Data → Members → Members
with_cooked None ms = ms
with_cooked (Some cooked) ms = member (codes "cooked") cooked ms

-- `value` of a template's part
abbrev pub template_value : List ℕ → Data
template_value w = object (with_cooked (cooked_of_units (cooked_value (chars w))) (member (codes "raw") (string w) no_members))
