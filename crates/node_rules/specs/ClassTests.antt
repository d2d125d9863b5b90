-- Tests of rules on members of classes that take more than a line.
use Rattle.std.specs.Prelude.{Bool, true, false, not, ◌&&◌, ◌||◌, ◌-◌, nat_eq, cond, Option, Some, None, is_none, codes}
use Rattle.tree.specs.declared.kind.Kind.TheVariants.{RestElement, SpreadElement}
use Rattle.tree.specs.declared.kind.Form.{Form}
use Rattle.tree.specs.declared.kind.Form.TheVariants.{Constructor}
use Rattle.tree.specs.declared.kind.Flags.{Flags}
use Rattle.tree.specs.Tree.{Tree, node, Parts, none, part, gap, flags_of, part_at, part_count, parts_of}
use Rattle.tree.specs.Fields.{last_part}
use Rattle.language.specs.FirstPart.{others}
use Rattle.node_rules.specs.declared.around.Around.{Around}
use Rattle.node_rules.specs.Arounds.{is_heir_remark}
use Rattle.node_rules.specs.ExpressionTests.{callee_of, second_of}
use Rattle.node_rules.specs.KindSets.{is_expression_statement, is_super}
use Rattle.node_rules.specs.PartTests.{any_part, is_pattern}
use Rattle.node_rules.specs.Tests.{first_of, has_statements}
use Rattle.node_rules.specs.Words.{is_identifier, is_name, kind_at, nth, text_at}

abbrev pub is_constructor : Form → Bool
is_constructor Constructor = true
is_constructor _ = false

-- what a function's body is
abbrev pub body_of : Option Tree → Option Tree
body_of None = None
body_of (Some function) = last_part (parts_of function)

-- the expression of a block that has nothing else in it
abbrev pub only_expression : Option Tree → Option Tree
only_expression block = cond (is_expression_statement (kind_at (first_of block)) && is_none (second_of block)) (first_of (first_of block)) None

-- what a rest parameter collects; what is spread
abbrev pub collected : Option Tree → Option Tree
collected None = None
collected (Some (node RestElement text flags from to parts)) = part_at parts 0
collected (Some (node _ text flags from to parts)) = None

abbrev pub spread : Option Tree → Option Tree
spread None = None
spread (Some (node SpreadElement text flags from to parts)) = part_at parts 0
spread (Some (node _ text flags from to parts)) = None

abbrev pub is_same_name : Option Tree → Option Tree → Bool
is_same_name one other = is_identifier one && is_name (text_at one) other

-- a parameter and an argument: one name, or, of a rest parameter, that name spread; `super`, which stands before the arguments, has no parameter
abbrev pub is_handed_on : (parameter argument : Option Tree) → Bool
is_handed_on parameter argument = is_super (kind_at argument) || (is_same_name parameter argument || is_same_name (collected parameter) (spread argument))

-- each argument is a parameter, in order
unfoldable pub each_is_handed_on : (parameters arguments : Parts) → Bool
each_is_handed_on parameters none = true
each_is_handed_on parameters (part argument rest) = is_handed_on (part_at parameters 0) (Some argument) && each_is_handed_on (others parameters) rest
each_is_handed_on parameters (gap rest) = is_handed_on (part_at parameters 0) None && each_is_handed_on (others parameters) rest

-- arguments are all parameters, in order: a function has one part more, its body
abbrev pub are_handed_on : (function call : Tree) → Bool
are_handed_on function call = nat_eq (part_count (parts_of function) - part_count (parts_of call)) 1 && each_is_handed_on (parts_of function) (parts_of call)

-- the one argument is `...arguments`, and no parameter is a pattern or has a default
abbrev pub spreads_arguments : (function call : Tree) → Bool
spreads_arguments function call = is_name (codes "arguments") (spread (nth 1 call)) && (is_none (nth 2 call) && not (any_part is_pattern (parts_of function)))

-- all that a function does is to call `super` with what it was called with
abbrev pub hands_on : Tree → Option Tree → Bool
hands_on function None = false
hands_on function (Some call) = is_super (kind_at (callee_of (Some call))) && (spreads_arguments function call || are_handed_on function call)

abbrev pub only_hands_on : Option Tree → Bool
only_hands_on None = false
only_hands_on (Some function) = hands_on function (only_expression (last_part (parts_of function)))

-- a function does what is done without a constructor (14.6.13): nothing, or, in a class with `extends`, it hands on what it was called with
abbrev pub does_as_none : (is_heir : Bool) → Option Tree → Bool
does_as_none true function = only_hands_on function
does_as_none false function = not (has_statements (body_of function))

-- a constructor that may as well be absent
abbrev pub is_useless_constructor : Around → Tree → Bool
is_useless_constructor around tree = is_constructor (flags_of tree).form && does_as_none (is_heir_remark around.remark) (nth 1 tree)
