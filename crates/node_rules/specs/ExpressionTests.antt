-- Tests of rules on expressions, members and properties that take more than a line.
use Rattle.std.specs.List.{list_any, slice_range}
use Rattle.std.specs.Prelude.{ℕ, Bool, true, false, not, ◌&&◌, ◌||◌, nat_eq, cond, List, [], ◌∷◌, Option, Some, None, is_none, is_some, codes}
use Rattle.tree.specs.declared.kind.Kind.{Kind}
use Rattle.tree.specs.declared.kind.Kind.TheVariants.{AssignmentPattern, UnaryExpression}
use Rattle.tree.specs.declared.kind.Form.{Form}
use Rattle.tree.specs.declared.kind.Form.TheVariants.{Init}
use Rattle.tree.specs.declared.kind.Span.{Span}
use Rattle.tree.specs.declared.kind.Flags.{Flags}
use Rattle.tree.specs.Kinds.{is_loop}
use Rattle.tree.specs.Tree.{Tree, node, kind_of, text_of, flags_of, part_at, start_of}
use Rattle.language.specs.Vocabulary.{is}
use Rattle.node_rules.specs.declared.around.Around.{Around}
use Rattle.node_rules.specs.KindSets.{is_assignment, is_block, is_binary, is_do, is_function_expression, is_if, is_literal_kind, is_object_pattern, is_plain_call, is_property, is_spread, is_unary_kind, is_variable_declaration, takes_effect}
use Rattle.node_rules.specs.Tests.{first_of, is_empty_object}
use Rattle.node_rules.specs.Values.{is_empty_text, is_number, is_numeric, is_radix, is_text}
use Rattle.node_rules.specs.ValueSearches.{is_sum}
use Rattle.node_rules.specs.Words.{is_identifier, is_member, is_name, is_string, is_unary, kind_at, nth, object_of, operand, span_at, text_at, unchained}

-- a declaration in the head of a `for`: the first part of a loop, which of `do` is its body
abbrev pub is_head : Around → Tree → Bool
is_head around tree = is_variable_declaration (kind_of tree) && (nat_eq around.place 0 && not (is_do around.parent))

-- the body of an `if`, `else` or loop stands here, which is no block; `else if` aside
abbrev pub is_bare_body : Around → Tree → Bool
is_bare_body around tree = (is_loop around.parent && not (is_head around tree)) || (is_if around.parent && not (is_if (kind_of tree) && nat_eq around.place 2))

-- `arguments.callee` or `arguments.caller`
abbrev pub is_caller : Tree → Bool
is_caller tree = is_name (codes "arguments") (nth 0 tree) && (not (flags_of tree).computed && (is_name (codes "callee") (nth 1 tree) || is_name (codes "caller") (nth 1 tree)))

-- a string, number or boolean as an object
abbrev pub is_wrapper : Option Tree → Bool
is_wrapper it = is_name (codes "String") it || (is_name (codes "Number") it || is_name (codes "Boolean") it)

-- `!a in b`, `!a instanceof b`: the left side has a `!`, and no parenthesis stands before it
abbrev pub is_negated_side : Tree → Bool
is_negated_side tree = (is (text_of tree) "in" || is (text_of tree) "instanceof") && (is_unary (codes "!") (nth 0 tree) && nat_eq (span_at tree (nth 0 tree)).start (start_of tree))

-- an expression that has an effect by itself
abbrev pub is_used : Option Tree → Bool
is_used it = takes_effect (kind_at it) || (is_unary (codes "delete") it || is_unary (codes "void") it)

-- a block's second statement
abbrev pub second_of : Option Tree → Option Tree
second_of None = None
second_of (Some tree) = nth 1 tree

-- an `else` that is a block with an `if` alone in it
abbrev pub is_lonely_if : Tree → Bool
is_lonely_if tree = is_block (kind_at (nth 2 tree)) && (is_if (kind_at (first_of (nth 2 tree))) && is_none (second_of (nth 2 tree)))

-- an own name, as a key has it: itself, or as a string
abbrev pub is_key_named : List ℕ → Option Tree → Bool
is_key_named [] key = false
is_key_named (c ∷ cs) key = is_name (c ∷ cs) key || is_string (c ∷ cs) key

abbrev pub is_init : Form → Bool
is_init Init = true
is_init _ = false

-- a key in no brackets, and a value that is one name with it
abbrev pub keeps_key : Tree → Option Tree → Bool
keeps_key tree value = not (flags_of tree).computed && (is_identifier value && is_key_named (text_at value) (nth 0 tree))

-- a function expression without a name
abbrev pub is_unnamed_function : Option Tree → Bool
is_unnamed_function None = false
is_unnamed_function (Some tree) = is_function_expression (kind_of tree) && is_none (nth 0 tree)

-- a property of an object that could be a shorthand or a method
abbrev pub is_long_property : Tree → Bool
is_long_property tree = is_init (flags_of tree).form && (is_unnamed_function (nth 1 tree) || keeps_key tree (nth 1 tree))

-- what a property of a pattern binds or assigns, its default aside
abbrev pub without_default : Option Tree → Option Tree
without_default None = None
without_default (Some (node AssignmentPattern text flags from to parts)) = part_at parts 0
without_default (Some (node kind text flags from to parts)) = Some (node kind text flags from to parts)

-- a property of a pattern, or a specifier
abbrev pub may_rename : (parent kind : Kind) → Bool
may_rename parent kind = is_object_pattern parent || not (is_property kind)

-- two names, and both are one
abbrev pub keeps_name : Tree → Bool
keeps_name tree = is_init (flags_of tree).form && keeps_key tree (without_default (nth 1 tree))

-- the name `parseInt`, or the member `parseInt` of `Number`
abbrev pub is_parse_int : Option Tree → Bool
is_parse_int it = is_name (codes "parseInt") it || (is_name (codes "Number") (object_of it) && is_member (codes "parseInt") it)

-- a second argument that is no radix; none behind a first that is no spread one
abbrev pub lacks_radix : Tree → Bool
lacks_radix tree = not (is_spread (kind_at (nth 1 tree))) && (is_none (nth 2 tree) || (is_name (codes "undefined") (nth 2 tree) || (is_literal_kind (kind_at (nth 2 tree)) && not (is_radix (text_at (nth 2 tree))))))

-- the number 1, and on the other side what is no number yet
abbrev pub is_times_one : Option Tree → Option Tree → Bool
is_times_one one other = is_literal_kind (kind_at one) && (is (text_at one) "1" && (not (is_numeric other) && not (is_binary (kind_at other))))

-- a text with nothing in it, and on the other side what is no text yet
abbrev pub is_plus_nothing : Option Tree → Option Tree → Bool
is_plus_nothing one other = is_empty_text one && not (is_text other)

-- what a call calls
abbrev pub callee_of : Option Tree → Option Tree
callee_of None = None
callee_of (Some tree) = cond (is_plain_call (kind_of tree)) (nth 0 tree) None

-- a search for a place, which is -1 where there is none
abbrev pub finds_place : Option Tree → Bool
finds_place it = is_member (codes "indexOf") (callee_of it) || is_member (codes "lastIndexOf") (callee_of it)

-- `!!a`, `+a`, `~a.indexOf(b)`
abbrev pub is_unary_coercion : Tree → Bool
is_unary_coercion tree = (is (text_of tree) "!" && is_unary (codes "!") (nth 0 tree)) || ((is (text_of tree) "+" && not (is_numeric (nth 0 tree))) || (is (text_of tree) "~" && finds_place (nth 0 tree)))

-- a product with 1, or a sum with nothing, on either side
abbrev pub has_one : Tree → Bool
has_one tree = is (text_of tree) "*" && (is_times_one (nth 0 tree) (nth 1 tree) || is_times_one (nth 1 tree) (nth 0 tree))

abbrev pub has_nothing : Tree → Bool
has_nothing tree = is (text_of tree) "+" && (is_plus_nothing (nth 0 tree) (nth 1 tree) || is_plus_nothing (nth 1 tree) (nth 0 tree))

-- an operator makes a boolean, a number or a string of what it is used on, and does nothing else
abbrev pub is_coercion : Tree → Bool
is_coercion tree =
    cond (is_unary_kind (kind_of tree)) (is_unary_coercion tree)
    (cond (is_assignment (kind_of tree)) (is (text_of tree) "+=" && is_empty_text (nth 1 tree)) (has_one tree || has_nothing tree))

-- `Math.pow`
abbrev pub is_power : Option Tree → Bool
is_power it = is_name (codes "Math") (object_of it) && is_member (codes "pow") it

-- where `hasOwnProperty` may be taken from: `{}`, `Object`, `Object.prototype`
abbrev pub is_any_object : Option Tree → Bool
is_any_object it = is_empty_object it || (is_name (codes "Object") it || (is_name (codes "Object") (object_of it) && is_member (codes "prototype") it))

-- `Object.prototype.hasOwnProperty.call` and its kin
abbrev pub calls_has_own : Option Tree → Bool
calls_has_own it = is_member (codes "call") it && (is_member (codes "hasOwnProperty") (object_of it) && is_any_object (object_of (object_of it)))

-- the right side of a sum, or the left one; what is no sum is itself
abbrev pub end_of_sum : Option Tree → Option Tree
end_of_sum None = None
end_of_sum (Some tree) = cond (is_sum tree) (nth 1 tree) (Some tree)

abbrev pub start_of_sum : Option Tree → Option Tree
start_of_sum None = None
start_of_sum (Some tree) = cond (is_sum tree) (nth 0 tree) (Some tree)

-- no line ends in this part of the text
abbrev pub is_one_line : List ℕ → (from to : ℕ) → Bool
is_one_line source from to = not (list_any (λ b. nat_eq b 10) (slice_range source from to) || list_any (λ b. nat_eq b 13) (slice_range source from to))

-- two parts are texts, and on one line
abbrev pub are_joined : List ℕ → Tree → Option Tree → Option Tree → Bool
are_joined source tree one other = is_text one && (is_text other && is_one_line source (span_at tree one).end (span_at tree other).start)

-- a text is added to another, which a `+` on either side of it may have as its own
abbrev pub adds_texts : List ℕ → Tree → Bool
adds_texts source tree = is_sum tree && are_joined source tree (end_of_sum (nth 0 tree)) (start_of_sum (nth 1 tree))

-- what to use in its place
abbrev pub coercion_words : Tree → List ℕ
coercion_words tree =
    cond (is_unary_kind (kind_of tree)) (cond (is (text_of tree) "!") (codes "use Boolean(..)") (cond (is (text_of tree) "+") (codes "use Number(..)") (codes "compare it with -1")))
    (cond (is (text_of tree) "*") (codes "use Number(..)") (codes "use String(..)"))
