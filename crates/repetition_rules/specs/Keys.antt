-- What keys are compared by: what the tree alone says of the value of a PropertyName (12.2.6).
use Rattle.std.specs.Prelude.{ℕ, Bool, true, false, ◌&&◌, ◌||◌, nat_eq, nat_le, cond, length, List, [], ◌∷◌, ◌++◌, Option, Some, None, option_map, encode_utf8_all, codes}
use Rattle.std.specs.Str.{chars}
use Rattle.std.specs.Char.Utf16.{has_unpaired_surrogate, utf16_lossy_chars}
use Rattle.tokens.specs.Strings.{string_units}
use Rattle.tokens.specs.Templates.{cooked_value}
use Rattle.tree.specs.declared.kind.Kind.TheVariants.{Identifier, Literal, TemplateLiteral}
use Rattle.tree.specs.Tree.{Tree, node, part_at, parts_of, text_of}

abbrev pub is_quoted : List ℕ → Bool
is_quoted [] = false
is_quoted (c ∷ cs) = nat_eq c 34 || nat_eq c 39

abbrev pub is_digit : ℕ → Bool
is_digit c = nat_le 48 c && nat_le c 57

-- with a digit or a point
abbrev pub begins_number : List ℕ → Bool
begins_number [] = false
begins_number (c ∷ cs) = nat_eq c 46 || is_digit c

abbrev pub begins_slash : List ℕ → Bool
begins_slash [] = false
begins_slash (c ∷ cs) = nat_eq c 47

abbrev pub are_digits : List ℕ → Bool
are_digits [] = true
are_digits (c ∷ cs) = is_digit c && are_digits cs

-- a bigint without its `n`
abbrev pub without_n : List ℕ → List ℕ
without_n [] = []
without_n (c ∷ []) = cond (nat_eq c 110) [] (c ∷ [])
without_n (c ∷ d ∷ ds) = c ∷ without_n (d ∷ ds)

-- A decimal integer of so few digits is what ToString (7.1.12.1) makes of it; in strict code it has no zero in front (11.8.3).
abbrev pub is_plain : List ℕ → Bool
is_plain digits = nat_le (length digits) 15 && are_digits digits

-- static members and others have their own labels
abbrev pub side : Bool → List ℕ
side true = codes "static "
side false = []

-- A label: `=` before a value as ToPropertyKey (7.1.14) makes it, `#` before a number as it is written.
abbrev pub labelled : (before sign value : List ℕ) → List ℕ
labelled before sign value = before ++ (sign ++ value)

-- the text of units of UTF-16: none where a surrogate has no partner
abbrev pub text_of_units : List ℕ → Option (List ℕ)
text_of_units units = cond (has_unpaired_surrogate units) None (Some (encode_utf8_all (utf16_lossy_chars units)))

abbrev pub units_label : List ℕ → List ℕ → Option (List ℕ)
units_label before units = option_map (labelled before (codes "=")) (text_of_units units)

abbrev pub name_label : List ℕ → Bool → List ℕ → Option (List ℕ)
name_label before computed name = cond computed None (Some (labelled before (codes "=") name))

-- a number that isn't plain is compared as it is written
abbrev pub number_label : List ℕ → List ℕ → List ℕ
number_label before text = cond (is_plain (without_n text)) (labelled before (codes "=") (without_n text)) (labelled before (codes "#") text)

-- `true`, `false` and `null`; a regular expression has none
abbrev pub word_label : List ℕ → List ℕ → Option (List ℕ)
word_label before text = cond (begins_slash text) None (Some (labelled before (codes "=") text))

abbrev pub literal_label : List ℕ → List ℕ → Option (List ℕ)
literal_label before text =
    cond (is_quoted text) (units_label before (string_units (chars text)))
    (cond (begins_number text) (Some (number_label before text)) (word_label before text))

-- the raw text of a template without substitutions
abbrev pub raw_text : Option Tree → Option Tree → Option (List ℕ)
raw_text (Some expression) element = None
raw_text None element = option_map text_of element

abbrev pub bare_template : Tree → Option (List ℕ)
bare_template tree = raw_text (part_at (parts_of tree) 1) (part_at (parts_of tree) 0)

abbrev pub cooked_label : List ℕ → Option (List ℕ) → Option (List ℕ)
cooked_label before None = None
cooked_label before (Some units) = units_label before units

abbrev pub template_label : List ℕ → Option (List ℕ) → Option (List ℕ)
template_label before None = None
template_label before (Some raw) = cooked_label before (cooked_value (chars raw))

-- of a key, which may stand in brackets: a name there isn't its own value
abbrev pub key_label : List ℕ → Bool → Option Tree → Option (List ℕ)
key_label before computed None = None
key_label before computed (Some (node Identifier text flags from to parts)) = name_label before computed text
key_label before computed (Some (node Literal text flags from to parts)) = literal_label before text
key_label before computed (Some (node TemplateLiteral text flags from to parts)) = template_label before (bare_template (node TemplateLiteral text flags from to parts))
key_label before computed (Some (node _ text flags from to parts)) = None
