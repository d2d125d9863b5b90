-- Words for what rules say of nodes. A part that is missing is none of these.
use Rattle.std.specs.Prelude.{ℕ, Bool, true, false, ◌&&◌, ◌||◌, nat_eq, nat_le, cond, List, [], ◌∷◌, Option, Some, None}
use Rattle.std.specs.Str.{bytes_eq, chars}
use Rattle.tokens.specs.Strings.{string_units}
use Rattle.tree.specs.declared.kind.Kind.{Kind}
use Rattle.tree.specs.declared.kind.Kind.TheVariants.{ChainExpression, Identifier, Literal, MemberExpression, Program, UnaryExpression}
use Rattle.tree.specs.declared.kind.Span.{Span}
use Rattle.tree.specs.declared.kind.Flags.{Flags}
use Rattle.tree.specs.Kinds.{is_function}
use Rattle.tree.specs.Uses.{is_async}
use Rattle.tree.specs.Tree.{Tree, node, Parts, none, part, gap, kind_of, part_at, parts_of, start_of, stop_of, text_of}
use Rattle.language.specs.Vocabulary.{is}

abbrev pub is_empty : Parts → Bool
is_empty none = true
is_empty _ = false

-- the part of a node at a place
abbrev pub nth : ℕ → Tree → Option Tree
nth i tree = part_at (parts_of tree) i

abbrev pub span_of : Tree → Span
span_of tree = record { start = start_of tree; end = stop_of tree }

-- where a part stands; where it is missing, where its node does
abbrev pub span_at : Tree → Option Tree → Span
span_at tree None = span_of tree
span_at tree (Some inner) = span_of inner

-- the text of a part, empty where it is missing
abbrev pub text_at : Option Tree → List ℕ
text_at None = []
text_at (Some tree) = text_of tree

-- the kind of a part; that of a Program, which is a part of nothing, where it is missing
abbrev pub kind_at : Option Tree → Kind
kind_at None = Program
kind_at (Some tree) = kind_of tree

-- a name, any or this one
abbrev pub is_identifier : Option Tree → Bool
is_identifier None = false
is_identifier (Some (node Identifier text flags from to parts)) = true
is_identifier (Some (node _ text flags from to parts)) = false

abbrev pub is_name : List ℕ → Option Tree → Bool
is_name name None = false
is_name name (Some (node Identifier text flags from to parts)) = bytes_eq text name
is_name name (Some (node _ text flags from to parts)) = false

-- a text begins with a quotation mark
abbrev pub is_quoted : List ℕ → Bool
is_quoted [] = false
is_quoted (c ∷ cs) = nat_eq c 34 || nat_eq c 39

-- a text begins with a digit from 1 to 9
abbrev pub is_from_one : List ℕ → Bool
is_from_one [] = false
is_from_one (c ∷ cs) = nat_le 49 c && nat_le c 57

-- a string of this value (SV, 11.8.4)
abbrev pub is_string : List ℕ → Option Tree → Bool
is_string value None = false
is_string value (Some (node Literal text flags from to parts)) = is_quoted text && bytes_eq (string_units (chars text)) value
is_string value (Some (node _ text flags from to parts)) = false

-- the key of a member, which may stand in brackets as a string
abbrev pub is_key_part : List ℕ → Bool → Option Tree → Bool
is_key_part key computed property = cond computed (is_string key property) (is_name key property)

-- a member with this key
abbrev pub is_member : List ℕ → Option Tree → Bool
is_member key None = false
is_member key (Some (node MemberExpression text flags from to parts)) = is_key_part key flags.computed (part_at parts 1)
is_member key (Some (node _ text flags from to parts)) = false

abbrev pub is_chain : Kind → Bool
is_chain ChainExpression = true
is_chain _ = false

-- what a chain (`?.`, 12.3.9) has in it; what is no chain is itself
abbrev pub unchained : Option Tree → Option Tree
unchained None = None
unchained (Some tree) = cond (is_chain (kind_of tree)) (nth 0 tree) (Some tree)

-- a unary operator with its operand
abbrev pub is_unary : List ℕ → Option Tree → Bool
is_unary operator None = false
is_unary operator (Some (node UnaryExpression text flags from to parts)) = bytes_eq text operator
is_unary operator (Some (node _ text flags from to parts)) = false

-- the operand of that operator, if the part is so
abbrev pub operand : List ℕ → Option Tree → Option Tree
operand operator None = None
operand operator (Some (node UnaryExpression text flags from to parts)) = cond (bytes_eq text operator) (part_at parts 0) None
operand operator (Some (node _ text flags from to parts)) = None

-- the object of a member
abbrev pub object_of : Option Tree → Option Tree
object_of None = None
object_of (Some (node MemberExpression text flags from to parts)) = part_at parts 0
object_of (Some (node _ text flags from to parts)) = None

-- a literal that says zero; the ways to write it are many, these are the usual ones
abbrev pub is_zero : Option Tree → Bool
is_zero None = false
is_zero (Some (node Literal text flags from to parts)) = is text "0" || (is text "0.0" || (is text "0." || is text ".0"))
is_zero (Some (node _ text flags from to parts)) = false

-- a number literal from one on
abbrev pub is_positive : Option Tree → Bool
is_positive None = false
is_positive (Some (node Literal text flags from to parts)) = is_from_one text
is_positive (Some (node _ text flags from to parts)) = false

abbrev pub is_async_function : Option Tree → Bool
is_async_function None = false
is_async_function (Some (node kind text flags from to parts)) = is_function kind && is_async flags.form

-- the operators that compare two values (12.10, 12.11), but `in` and `instanceof`; those of 12.11 alone
abbrev pub is_equality : List ℕ → Bool
is_equality text = is text "==" || (is text "!=" || (is text "===" || is text "!=="))

abbrev pub is_comparison : List ℕ → Bool
is_comparison text = is_equality text || (is text "<" || (is text ">" || (is text "<=" || is text ">=")))
