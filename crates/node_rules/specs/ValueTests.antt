-- Tests of rules on what expressions are worth, and where jumps go.
use Rattle.std.specs.Prelude.{ℕ, Bool, true, false, not, ◌&&◌, ◌||◌, nat_eq, cond, List, [], Option, Some, None, is_some, codes}
use Rattle.tree.specs.declared.kind.Kind.{Kind}
use Rattle.tree.specs.declared.kind.Kind.TheVariants.{AssignmentExpression, AssignmentPattern, BinaryExpression, BreakStatement, CallExpression, ClassDeclaration, ClassExpression, ContinueStatement, ForOfStatement, MemberExpression, NewExpression, SpreadElement, TaggedTemplateExpression, VariableDeclarator}
use Rattle.tree.specs.declared.kind.Flags.{Flags}
use Rattle.tree.specs.Kinds.{is_loop}
use Rattle.tree.specs.Tree.{Tree, node, kind_of, text_of, parts_of, part_at}
use Rattle.tree.specs.Fields.{last_part}
use Rattle.language.specs.Vocabulary.{is}
use Rattle.node_rules.specs.declared.around.Around.{Around}
use Rattle.node_rules.specs.declared.search.Sought.TheVariants.{Yield}
use Rattle.node_rules.specs.declared.value_search.Value.TheVariants.{Chain, Error, NoText, Text}
use Rattle.node_rules.specs.Arounds.{has_breaks, has_continues, has_returns, is_sum_remark}
use Rattle.node_rules.specs.KindSets.{destructures, is_literal_kind, is_logical, is_member_expression, is_name_kind, is_object, is_spread, makes_object}
use Rattle.node_rules.specs.Paths.{are_same}
use Rattle.node_rules.specs.Searches.{has_sought}
use Rattle.node_rules.specs.Tests.{tested}
use Rattle.node_rules.specs.Values.{is_plain_template}
use Rattle.node_rules.specs.ValueSearches.{has_value, is_logical_assignment, is_sum, some_value}
use Rattle.node_rules.specs.Words.{is_comparison, is_name, is_unary, kind_at, nth, operand, text_at}

-- what is thrown can be no Error
abbrev pub throws_no_error : Tree → Bool
throws_no_error tree = is_name (codes "undefined") (nth 0 tree) || not (has_value Error (nth 0 tree))

-- a whole sum, with a text in it and with something else
abbrev pub is_mixed_sum : Around → Tree → Bool
is_mixed_sum around tree = is_sum tree && (not (is_sum_remark around.remark) && (some_value Text tree && some_value NoText tree))

-- the part of a node that throws where it is undefined: what is called, asked for a member, spread, inherited from or taken apart
abbrev pub risked : Tree → Option Tree
risked (node CallExpression text flags from to parts) = cond flags.optional None (part_at parts 0)
risked (node MemberExpression text flags from to parts) = cond flags.optional None (part_at parts 0)
risked (node NewExpression text flags from to parts) = part_at parts 0
risked (node TaggedTemplateExpression text flags from to parts) = part_at parts 0
risked (node SpreadElement text flags from to parts) = part_at parts 0
risked (node ClassDeclaration text flags from to parts) = part_at parts 1
risked (node ClassExpression text flags from to parts) = part_at parts 1
risked (node ForOfStatement text flags from to parts) = part_at parts 1
risked (node BinaryExpression text flags from to parts) = cond (is text "in" || is text "instanceof") (part_at parts 1) None
risked (node AssignmentExpression text flags from to parts) = cond (destructures (kind_at (part_at parts 0))) (part_at parts 1) None
risked (node VariableDeclarator text flags from to parts) = cond (destructures (kind_at (part_at parts 0))) (part_at parts 1) None
risked (node AssignmentPattern text flags from to parts) = cond (destructures (kind_at (part_at parts 0))) (part_at parts 1) None
risked (node _ text flags from to parts) = None

-- it may be a chain (12.3.9) that was cut short; an object takes undefined where it is spread
abbrev pub is_unsafe_chain : Around → Tree → Bool
is_unsafe_chain around tree = not (is_spread (kind_of tree) && is_object around.parent) && has_value Chain (risked tree)

-- what is known of a value by its own text: a literal, something new, a template without substitutions and escapes, `typeof`, `void`
abbrev pub is_known : Option Tree → Bool
is_known it = is_literal_kind (kind_at it) || (makes_object (kind_at it) || (is_plain_template it || (is_unary (codes "typeof") it || is_unary (codes "void") it)))

-- the right side of a plain assignment
abbrev pub assigned : Option Tree → Option Tree
assigned None = None
assigned (Some (node AssignmentExpression text flags from to parts)) = cond (is text "=") (part_at parts 1) None
assigned (Some (node _ text flags from to parts)) = None

-- a known value, perhaps with `!` before it, or an assignment of one
abbrev pub is_constant : Option Tree → Bool
is_constant it = is_known it || (is_known (operand (codes "!") it) || (is_known (operand (codes "!") (operand (codes "!") it)) || is_known (assigned it)))

-- a loop with a `yield` in it
abbrev pub is_yielding_loop : Tree → Bool
is_yielding_loop tree = is_loop (kind_of tree) && has_sought Yield [] (Some tree)

-- a condition is always the same, and no loop that yields has it
abbrev pub is_constant_test : Tree → Bool
is_constant_test tree = is_constant (tested tree) && not (is_yielding_loop tree)

-- a value that is never null and never undefined
abbrev pub is_never_nullish : Option Tree → Bool
is_never_nullish it = is_known it && not (is_unary (codes "void") it || (is_literal_kind (kind_at it) && is (text_at it) "null"))

-- a logical operator whose left side decides, or `===` or `!==` with something new on one side
abbrev pub is_constant_operation : Tree → Bool
is_constant_operation tree =
    cond (is_logical (kind_of tree)) (cond (is (text_of tree) "??") (is_never_nullish (nth 0 tree)) (is_constant (nth 0 tree)))
    ((is (text_of tree) "===" || is (text_of tree) "!==") && (makes_object (kind_at (nth 0 tree)) || makes_object (kind_at (nth 1 tree))))

-- a name, or a member
abbrev pub is_simple_target : Option Tree → Bool
is_simple_target it = is_name_kind (kind_at it) || is_member_expression (kind_at it)

-- an assignment, perhaps a logical one, of a name or member to itself
abbrev pub is_self_assignment : Tree → Bool
is_self_assignment tree = (is (text_of tree) "=" || is_logical_assignment (text_of tree)) && (is_simple_target (nth 0 tree) && are_same (nth 0 tree) (nth 1 tree))

-- operators that have an assignment of their own, `**` to `>>>` (12.6 to 12.12); those of them whose sides may change places
abbrev pub has_assignment : List ℕ → Bool
has_assignment text = not (is_comparison text || (is text "in" || is text "instanceof"))

abbrev pub is_commutative : List ℕ → Bool
is_commutative text = is text "*" || (is text "&" || (is text "^" || is text "|"))

-- an operator and its sides
abbrev pub operates_on : Option Tree → Option Tree → Bool
operates_on target None = false
operates_on target (Some (node BinaryExpression text flags from to parts)) = has_assignment text && (are_same target (part_at parts 0) || (is_commutative text && are_same target (part_at parts 1)))
operates_on target (Some (node _ text flags from to parts)) = false

-- `a = a + b`
abbrev pub is_long_assignment : Tree → Bool
is_long_assignment tree = is (text_of tree) "=" && (is_simple_target (nth 0 tree) && operates_on (nth 0 tree) (nth 1 tree))

-- a jump, or a `throw`, leaves a finalizer
abbrev pub leaves_finalizer : Around → Tree → Bool
leaves_finalizer around (node BreakStatement text flags from to parts) = cond (is_some (part_at parts 0)) around.leaving_by_label (has_breaks around.leaving)
leaves_finalizer around (node ContinueStatement text flags from to parts) = cond (is_some (part_at parts 0)) around.leaving_by_label (has_continues around.leaving)
leaves_finalizer around (node _ text flags from to parts) = has_returns around.leaving
