-- The tests of rules on nodes that take more than a line.
use Rattle.std.specs.Prelude.{ℕ, Bool, true, false, not, ◌&&◌, ◌||◌, cond, nat_eq, List, [], Option, Some, None, codes}
use Rattle.std.specs.List.{list_any, slice_range}
use Rattle.tree.specs.declared.kind.Kind.{Kind}
use Rattle.tree.specs.declared.kind.Kind.TheVariants.{AssignmentExpression, BinaryExpression, BlockStatement, CallExpression, CatchClause, ConditionalExpression, DoWhileStatement, ExportDefaultDeclaration, ExportNamedDeclaration, ForInStatement, ForOfStatement, ForStatement, IfStatement, LabeledStatement, Literal, MemberExpression, NewExpression, Program, StaticBlock, SwitchCase, SwitchStatement, ThrowStatement, UnaryExpression, UpdateExpression, VariableDeclaration, WhileStatement}
use Rattle.tree.specs.declared.kind.Flags.{Flags}
use Rattle.tree.specs.Kinds.{is_function}
use Rattle.tree.specs.Uses.{is_generator}
use Rattle.tree.specs.Tree.{Tree, node, Parts, kind_of, text_of, flags_of, part_at, parts_of, start_of, stop_of}
use Rattle.tree.specs.Fields.{last_part}
use Rattle.language.specs.FirstPart.{others}
use Rattle.language.specs.Vocabulary.{is}
use Rattle.node_rules.specs.declared.around.Around.{Around}
use Rattle.node_rules.specs.declared.node_rule.NodeOptions.{NodeOptions}
use Rattle.node_rules.specs.declared.search.Sought.TheVariants.{Yield}
use Rattle.node_rules.specs.KindSets.{is_binary, is_object, is_switch}
use Rattle.node_rules.specs.Searches.{has_sought}
use Rattle.node_rules.specs.Values.{is_plain_template, is_template_of}
use Rattle.node_rules.specs.Words.{is_comparison, is_empty, is_equality, is_identifier, is_member, is_name, is_positive, is_string, is_unary, is_zero, nth, object_of, operand, text_at, unchained}

-- A comment stands in an empty block, from its `{` to behind its `}`: there is only white space and comments between the two, and of all these only a
-- comment has a `/`.
abbrev pub has_comment : List ℕ → ℕ → ℕ → Bool
has_comment source from to = list_any (λ b. nat_eq b 47) (slice_range source from to)

-- a switch without cases; a block without statements that is no function's body, and that the settings don't let be for a comment in it
abbrev pub is_empty_node : NodeOptions → (source : List ℕ) → Around → Tree → Bool
is_empty_node options source around tree =
    cond (is_switch (kind_of tree)) (is_empty (others (parts_of tree)))
    (is_empty (parts_of tree) && not (is_function around.parent || (options.allow_comments && has_comment source (start_of tree) (stop_of tree))))

abbrev pub is_minus_zero : Option Tree → Bool
is_minus_zero it = is_zero (operand (codes "-") it)

-- `NaN`, or the member `NaN` of `Number`
abbrev pub is_nan_value : Option Tree → Bool
is_nan_value it = is_name (codes "NaN") it || (is_name (codes "Number") (object_of it) && is_member (codes "NaN") it)

-- a comparison with it; a switch over it, a case of it
abbrev pub compares_nan : Tree → Bool
compares_nan tree = cond (is_binary (kind_of tree)) (is_comparison (text_of tree) && (is_nan_value (nth 0 tree) || is_nan_value (nth 1 tree))) (is_nan_value (nth 0 tree))

-- a string of this value, or a template without substitutions of this raw text
abbrev pub says_text : List ℕ → Option Tree → Bool
says_text value it = is_string value it || is_template_of value it

-- one of the strings that `typeof` gives (Table 37, 12.5.5)
abbrev pub is_typeof_value : Option Tree → Bool
is_typeof_value it =
    says_text (codes "undefined") it || (says_text (codes "object") it || (says_text (codes "boolean") it || (says_text (codes "number") it
    || (says_text (codes "bigint") it || (says_text (codes "string") it || (says_text (codes "symbol") it || says_text (codes "function") it))))))

abbrev pub is_literal : Option Tree → Bool
is_literal None = false
is_literal (Some (node Literal text flags from to parts)) = true
is_literal (Some (node _ text flags from to parts)) = false

-- a `typeof`, and on the other side a literal, or a template without substitutions and escapes, that it never is
abbrev pub is_never_typeof : Option Tree → Option Tree → Bool
is_never_typeof one other = is_unary (codes "typeof") one && ((is_literal other || is_plain_template other) && not (is_typeof_value other))

-- the members of Object.prototype (19.1.3) that tell what an object has
abbrev pub is_builtin_test : Option Tree → Bool
is_builtin_test it = is_member (codes "hasOwnProperty") it || (is_member (codes "isPrototypeOf") it || is_member (codes "propertyIsEnumerable") it)

-- a `throw` of this name
abbrev pub throws_name : List ℕ → Option Tree → Bool
throws_name name None = false
throws_name name (Some (node ThrowStatement text flags from to parts)) = is_name name (part_at parts 0)
throws_name name (Some (node _ text flags from to parts)) = false

-- a block's first statement
abbrev pub first_of : Option Tree → Option Tree
first_of None = None
first_of (Some tree) = nth 0 tree

-- a `catch` that binds a name and throws it at once
abbrev pub only_throws : Option Tree → Bool
only_throws None = false
only_throws (Some (node CatchClause text flags from to parts)) = is_identifier (part_at parts 0) && throws_name (text_at (part_at parts 0)) (first_of (part_at parts 1))
only_throws (Some (node _ text flags from to parts)) = false

-- `{}`
abbrev pub is_empty_object : Option Tree → Bool
is_empty_object None = false
is_empty_object (Some tree) = is_object (kind_of tree) && is_empty (parts_of tree)

-- a declaration that a scope keeps (8.1): all but `var`
abbrev pub is_lexical : Tree → Bool
is_lexical (node VariableDeclaration text flags from to parts) = not (is text "var")
is_lexical (node _ text flags from to parts) = true

-- a function declaration stands here as an item of a script, of a function's body or of a static block, or is exported
abbrev pub is_outermost : (parent grandparent : Kind) → Bool
is_outermost Program grandparent = true
is_outermost StaticBlock grandparent = true
is_outermost ExportNamedDeclaration grandparent = true
is_outermost ExportDefaultDeclaration grandparent = true
is_outermost BlockStatement grandparent = is_function grandparent
is_outermost _ grandparent = false

abbrev pub has_statements : Option Tree → Bool
has_statements None = false
has_statements (Some tree) = not (is_empty (parts_of tree))

-- a generator that yields nothing, though it does something
abbrev pub never_yields : Tree → Bool
never_yields tree = is_generator (flags_of tree).form && (has_statements (last_part (parts_of tree)) && not (has_sought Yield [] (last_part (parts_of tree))))

-- what ToBoolean (7.1.2) is made of anyway: a test, the operand of `!`, the first argument of `Boolean`
abbrev pub tested : Tree → Option Tree
tested (node IfStatement text flags from to parts) = part_at parts 0
tested (node WhileStatement text flags from to parts) = part_at parts 0
tested (node ConditionalExpression text flags from to parts) = part_at parts 0
tested (node DoWhileStatement text flags from to parts) = part_at parts 1
tested (node ForStatement text flags from to parts) = part_at parts 1
tested (node UnaryExpression text flags from to parts) = cond (is text "!") (part_at parts 0) None
tested (node CallExpression text flags from to parts) = cond (is_name (codes "Boolean") (part_at parts 0)) (part_at parts 1) None
tested (node NewExpression text flags from to parts) = cond (is_name (codes "Boolean") (part_at parts 0)) (part_at parts 1) None
tested (node _ text flags from to parts) = None

abbrev pub is_double_not : Option Tree → Bool
is_double_not it = is_unary (codes "!") (operand (codes "!") it)

abbrev pub calls_boolean : Option Tree → Bool
calls_boolean None = false
calls_boolean (Some (node CallExpression text flags from to parts)) = is_name (codes "Boolean") (part_at parts 0)
calls_boolean (Some (node _ text flags from to parts)) = false

abbrev pub is_cast : Tree → Bool
is_cast tree = is_double_not (tested tree) || calls_boolean (tested tree)

-- an assignment takes a number away, or adds one: by `-=` of a positive number or `+=` of a negative one
abbrev pub adds_away : Bool → List ℕ → Option Tree → Bool
adds_away true operator by = (is operator "-=" && is_positive by) || (is operator "+=" && is_positive (operand (codes "-") by))
adds_away false operator by = (is operator "+=" && is_positive by) || (is operator "-=" && is_positive (operand (codes "-") by))

abbrev pub steps_away : Bool → List ℕ → Bool
steps_away true operator = is operator "--"
steps_away false operator = is operator "++"

-- an update takes a name down, or up
abbrev pub moves : Bool → List ℕ → Option Tree → Bool
moves down name None = false
moves down name (Some (node UpdateExpression text flags from to parts)) = is_name name (part_at parts 0) && steps_away down text
moves down name (Some (node AssignmentExpression text flags from to parts)) = is_name name (part_at parts 0) && adds_away down text (part_at parts 1)
moves down name (Some (node _ text flags from to parts)) = false

-- a comparison wants a name on its left to be below, or above, a bound, and the update takes it away from there
abbrev pub leaves_bound : List ℕ → List ℕ → Option Tree → Bool
leaves_bound operator name update = ((is operator "<" || is operator "<=") && moves true name update) || ((is operator ">" || is operator ">=") && moves false name update)

abbrev pub runs_away : Option Tree → Option Tree → Bool
runs_away None update = false
runs_away (Some (node BinaryExpression text flags from to parts)) update = is_identifier (part_at parts 0) && leaves_bound text (text_at (part_at parts 0)) update
runs_away (Some (node _ text flags from to parts)) update = false
