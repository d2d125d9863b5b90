-- What the tree alone says of values: literals, templates without substitutions, and what is made of them.
use Rattle.std.specs.Prelude.{ℕ, Bool, true, false, not, ◌&&◌, ◌||◌, nat_eq, nat_le, ◌-◌, length, List, [], ◌∷◌, Option, Some, None, is_none, codes}
use Rattle.std.specs.List.{list_all, list_any, slice_range}
use Rattle.std.specs.Str.{bytes_eq}
use Rattle.tree.specs.declared.kind.Kind.TheVariants.{CallExpression, Literal, TemplateLiteral}
use Rattle.tree.specs.Tree.{Tree, node, part_at}
use Rattle.language.specs.Vocabulary.{is}
use Rattle.node_rules.specs.KindSets.{is_literal_kind, is_template}
use Rattle.node_rules.specs.Words.{is_name, is_quoted, is_string, kind_at, nth, operand, text_at}

-- a text begins as a number does: with a digit or a point
abbrev pub begins_number : List ℕ → Bool
begins_number [] = false
begins_number (c ∷ cs) = nat_eq c 46 || (nat_le 48 c && nat_le c 57)

-- a number, or a bigint
abbrev pub is_number : Option Tree → Bool
is_number it = is_literal_kind (kind_at it) && begins_number (text_at it)

-- a character that begins a name, and one that goes on with it, of those below U+0080 (11.6)
abbrev pub begins_name : ℕ → Bool
begins_name c = (nat_le 97 c && nat_le c 122) || ((nat_le 65 c && nat_le c 90) || (nat_eq c 36 || nat_eq c 95))

abbrev pub is_in_name : ℕ → Bool
is_in_name c = begins_name c || (nat_le 48 c && nat_le c 57)

-- a name of such characters
abbrev pub is_plain_name : List ℕ → Bool
is_plain_name [] = false
is_plain_name (c ∷ cs) = begins_name c && list_all is_in_name (c ∷ cs)

-- a string with such a name between its quotation marks
abbrev pub is_quoted_name : List ℕ → Bool
is_quoted_name text = is_quoted text && is_plain_name (slice_range text 1 (length text - 1))

-- a key in brackets that could stand behind a dot: `true`, `false` or `null`, a string, a template without substitutions
abbrev pub is_name_as_key : Option Tree → Bool
is_name_as_key None = false
is_name_as_key (Some (node Literal text flags from to parts)) = is_plain_name text || is_quoted_name text
is_name_as_key (Some (node TemplateLiteral text flags from to parts)) = is_none (part_at parts 1) && is_plain_name (text_at (part_at parts 0))
is_name_as_key (Some (node _ text flags from to parts)) = false

-- `true` or `false`
abbrev pub is_boolean : Option Tree → Bool
is_boolean it = is_literal_kind (kind_at it) && (is (text_at it) "true" || is (text_at it) "false")

-- a string, or a number
abbrev pub is_constant_key : Option Tree → Bool
is_constant_key it = is_literal_kind (kind_at it) && (is_quoted (text_at it) || begins_number (text_at it))

-- a template without substitutions (NoSubstitutionTemplate, 11.8.6)
abbrev pub is_bare_template : Option Tree → Bool
is_bare_template None = false
is_bare_template (Some (node TemplateLiteral text flags from to parts)) = is_none (part_at parts 1)
is_bare_template (Some (node _ text flags from to parts)) = false

-- such a template without escapes: its raw text is its value
abbrev pub is_plain_template : Option Tree → Bool
is_plain_template None = false
is_plain_template (Some (node TemplateLiteral text flags from to parts)) = is_none (part_at parts 1) && not (list_any (λ b. nat_eq b 92) (text_at (part_at parts 0)))
is_plain_template (Some (node _ text flags from to parts)) = false

-- a template without substitutions of this raw text
abbrev pub is_template_of : List ℕ → Option Tree → Bool
is_template_of value None = false
is_template_of value (Some (node TemplateLiteral text flags from to parts)) = is_none (part_at parts 1) && bytes_eq (text_at (part_at parts 0)) value
is_template_of value (Some (node _ text flags from to parts)) = false

-- a string with nothing in it, or such a template
abbrev pub is_empty_text : Option Tree → Bool
is_empty_text it = (is_literal_kind (kind_at it) && (is (text_at it) "\"\"" || is (text_at it) "''")) || is_template_of [] it

-- a string or a template
abbrev pub is_text : Option Tree → Bool
is_text it = is_template (kind_at it) || (is_literal_kind (kind_at it) && is_quoted (text_at it))

-- what is always the same: a literal, a template without substitutions, a number with a minus
abbrev pub is_fixed : Option Tree → Bool
is_fixed it = is_literal_kind (kind_at it) || (is_bare_template it || is_number (operand (codes "-") it))

-- the name of a function that gives a number
abbrev pub names_number : Option Tree → Bool
names_number it = is_name (codes "Number") it || (is_name (codes "parseInt") it || is_name (codes "parseFloat") it)

-- a call of one
abbrev pub makes_number : Option Tree → Bool
makes_number None = false
makes_number (Some (node CallExpression text flags from to parts)) = names_number (part_at parts 0)
makes_number (Some (node _ text flags from to parts)) = false

-- a number already
abbrev pub is_numeric : Option Tree → Bool
is_numeric it = is_number it || makes_number it

-- a decimal number from 2 to 36
abbrev pub is_radix : List ℕ → Bool
is_radix (a ∷ []) = nat_le 50 a && nat_le a 57
is_radix (a ∷ b ∷ []) = (nat_le 49 a && (nat_le a 50 && (nat_le 48 b && nat_le b 57))) || (nat_eq a 51 && (nat_le 48 b && nat_le b 54))
is_radix _ = false

-- a string with a line end in it, behind a backslash (LineContinuation, 11.8.4)
abbrev pub is_split_string : List ℕ → Bool
is_split_string text = is_quoted text && (list_any (λ b. nat_eq b 10) text || list_any (λ b. nat_eq b 13) text)
