-- Sets of kinds of nodes.
use Rattle.std.specs.Prelude.{Bool, true, false, ◌||◌}
use Rattle.tree.specs.declared.kind.Kind.{Kind}
use Rattle.tree.specs.declared.kind.Kind.TheVariants.{BlockStatement, BreakStatement, CallExpression, CatchClause, ClassBody, ClassDeclaration, ClassExpression, ConditionalExpression, ContinueStatement, FunctionDeclaration, FunctionExpression, IfStatement, LogicalExpression, MemberExpression, MethodDefinition, Program, Property, PropertyDefinition, ReturnStatement, StaticBlock, SwitchCase, SwitchStatement, ThisExpression, TryStatement}
use Rattle.tree.specs.Kinds.{is_function}

-- a function with its own `this`: no arrow
abbrev pub is_own_function : Kind → Bool
is_own_function FunctionDeclaration = true
is_own_function FunctionExpression = true
is_own_function _ = false

-- a class
abbrev pub is_class : Kind → Bool
is_class ClassDeclaration = true
is_class ClassExpression = true
is_class _ = false

abbrev pub is_class_body : Kind → Bool
is_class_body ClassBody = true
is_class_body _ = false

abbrev pub is_method : Kind → Bool
is_method MethodDefinition = true
is_method _ = false

-- members that may be getters
abbrev pub is_member : Kind → Bool
is_member MethodDefinition = true
is_member Property = true
is_member _ = false

-- where `this` is another than in the constructor round it, functions aside
abbrev pub has_own_this : Kind → Bool
has_own_this PropertyDefinition = true
has_own_this StaticBlock = true
has_own_this _ = false

-- what has a list of statements (13.2, 13.12, 15.1)
abbrev pub is_list : Kind → Bool
is_list Program = true
is_list BlockStatement = true
is_list StaticBlock = true
is_list SwitchCase = true
is_list _ = false

abbrev pub is_block : Kind → Bool
is_block BlockStatement = true
is_block _ = false

abbrev pub is_if : Kind → Bool
is_if IfStatement = true
is_if _ = false

abbrev pub is_switch : Kind → Bool
is_switch SwitchStatement = true
is_switch _ = false

abbrev pub is_case : Kind → Bool
is_case SwitchCase = true
is_case _ = false

abbrev pub is_try : Kind → Bool
is_try TryStatement = true
is_try _ = false

abbrev pub is_catch : Kind → Bool
is_catch CatchClause = true
is_catch _ = false

abbrev pub is_break : Kind → Bool
is_break BreakStatement = true
is_break _ = false

abbrev pub is_continue : Kind → Bool
is_continue ContinueStatement = true
is_continue _ = false

abbrev pub is_return : Kind → Bool
is_return ReturnStatement = true
is_return _ = false

abbrev pub is_call : Kind → Bool
is_call CallExpression = true
is_call _ = false

abbrev pub is_member_expression : Kind → Bool
is_member_expression MemberExpression = true
is_member_expression _ = false

abbrev pub is_logical : Kind → Bool
is_logical LogicalExpression = true
is_logical _ = false

abbrev pub is_conditional : Kind → Bool
is_conditional ConditionalExpression = true
is_conditional _ = false

abbrev pub is_this : Kind → Bool
is_this ThisExpression = true
is_this _ = false

-- functions and the bodies of classes: no jump leaves them
abbrev pub is_code : Kind → Bool
is_code kind = is_function kind || is_class_body kind
