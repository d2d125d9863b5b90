-- Kinds of nodes at which rules look, and which they ask of what stands round a node.
use Rattle.std.specs.Prelude.{Bool, true, false}
use Rattle.tree.specs.declared.kind.Kind.{Kind}
use Rattle.tree.specs.declared.kind.Kind.TheVariants.{ArrayExpression, ArrayPattern, ArrowFunctionExpression, AssignmentExpression, AssignmentPattern, AwaitExpression, BinaryExpression, BlockStatement, BreakStatement, CallExpression, ChainExpression, ClassDeclaration, ClassExpression, ConditionalExpression, ContinueStatement, DebuggerStatement, DoWhileStatement, EmptyStatement, ExportSpecifier, ExpressionStatement, ForInStatement, ForOfStatement, ForStatement, FunctionDeclaration, FunctionExpression, Identifier, IfStatement, ImportExpression, ImportSpecifier, LabeledStatement, Literal, LogicalExpression, MemberExpression, MetaProperty, MethodDefinition, NewExpression, ObjectExpression, ObjectPattern, Property, PropertyDefinition, ReturnStatement, SequenceExpression, SpreadElement, StaticBlock, Super, SwitchCase, SwitchStatement, TaggedTemplateExpression, TemplateLiteral, ThisExpression, ThrowStatement, TryStatement, UnaryExpression, UpdateExpression, VariableDeclaration, VariableDeclarator, WhileStatement, YieldExpression}

-- an array
abbrev pub is_array : Kind → Bool
is_array ArrayExpression = true
is_array _ = false

-- an assignment
abbrev pub is_assignment : Kind → Bool
is_assignment AssignmentExpression = true
is_assignment _ = false

-- `await`
abbrev pub is_await : Kind → Bool
is_await AwaitExpression = true
is_await _ = false

-- a binary operator
abbrev pub is_binary : Kind → Bool
is_binary BinaryExpression = true
is_binary _ = false

-- an operator with two sides
abbrev pub is_binary_operation : Kind → Bool
is_binary_operation BinaryExpression = true
is_binary_operation LogicalExpression = true
is_binary_operation _ = false

-- a block
abbrev pub is_block : Kind → Bool
is_block BlockStatement = true
is_block _ = false

-- a call, or `new`
abbrev pub is_call : Kind → Bool
is_call CallExpression = true
is_call NewExpression = true
is_call _ = false

-- a case
abbrev pub is_case : Kind → Bool
is_case SwitchCase = true
is_case _ = false

-- a chain, `?.`
abbrev pub is_chain : Kind → Bool
is_chain ChainExpression = true
is_chain _ = false

-- `?:`
abbrev pub is_conditional : Kind → Bool
is_conditional ConditionalExpression = true
is_conditional _ = false

-- `continue`
abbrev pub is_continue : Kind → Bool
is_continue ContinueStatement = true
is_continue _ = false

-- `debugger`
abbrev pub is_debugger : Kind → Bool
is_debugger DebuggerStatement = true
is_debugger _ = false

-- `do`
abbrev pub is_do : Kind → Bool
is_do DoWhileStatement = true
is_do _ = false

-- an empty statement
abbrev pub is_empty_statement : Kind → Bool
is_empty_statement EmptyStatement = true
is_empty_statement _ = false

-- an expression as a statement
abbrev pub is_expression_statement : Kind → Bool
is_expression_statement ExpressionStatement = true
is_expression_statement _ = false

-- `for` with two semicolons
abbrev pub is_for : Kind → Bool
is_for ForStatement = true
is_for _ = false

-- a function expression
abbrev pub is_function_expression : Kind → Bool
is_function_expression FunctionExpression = true
is_function_expression _ = false

-- a function declaration
abbrev pub is_function_declaration : Kind → Bool
is_function_declaration FunctionDeclaration = true
is_function_declaration _ = false

-- `if`
abbrev pub is_if : Kind → Bool
is_if IfStatement = true
is_if _ = false

-- a statement with a label
abbrev pub is_labelled : Kind → Bool
is_labelled LabeledStatement = true
is_labelled _ = false

-- an operator that may leave its right side out
abbrev pub is_logical : Kind → Bool
is_logical LogicalExpression = true
is_logical _ = false

-- a literal
abbrev pub is_literal_kind : Kind → Bool
is_literal_kind Literal = true
is_literal_kind _ = false

-- a member
abbrev pub is_member_expression : Kind → Bool
is_member_expression MemberExpression = true
is_member_expression _ = false

-- a name
abbrev pub is_name_kind : Kind → Bool
is_name_kind Identifier = true
is_name_kind _ = false

-- `new`
abbrev pub is_new : Kind → Bool
is_new NewExpression = true
is_new _ = false

-- an object
abbrev pub is_object : Kind → Bool
is_object ObjectExpression = true
is_object _ = false

-- a pattern of an object
abbrev pub is_object_pattern : Kind → Bool
is_object_pattern ObjectPattern = true
is_object_pattern _ = false

-- a call without `new`
abbrev pub is_plain_call : Kind → Bool
is_plain_call CallExpression = true
is_plain_call _ = false

-- a property
abbrev pub is_property : Kind → Bool
is_property Property = true
is_property _ = false

-- `return`
abbrev pub is_return : Kind → Bool
is_return ReturnStatement = true
is_return _ = false

-- a spread argument
abbrev pub is_spread : Kind → Bool
is_spread SpreadElement = true
is_spread _ = false

-- a static block
abbrev pub is_static_block : Kind → Bool
is_static_block StaticBlock = true
is_static_block _ = false

-- `super`
abbrev pub is_super : Kind → Bool
is_super Super = true
is_super _ = false

-- a switch
abbrev pub is_switch : Kind → Bool
is_switch SwitchStatement = true
is_switch _ = false

-- a template
abbrev pub is_template : Kind → Bool
is_template TemplateLiteral = true
is_template _ = false

-- `this`
abbrev pub is_this : Kind → Bool
is_this ThisExpression = true
is_this _ = false

-- `throw`
abbrev pub is_throw : Kind → Bool
is_throw ThrowStatement = true
is_throw _ = false

-- `try`
abbrev pub is_try : Kind → Bool
is_try TryStatement = true
is_try _ = false

-- a pattern with a default
abbrev pub has_default : Kind → Bool
has_default AssignmentPattern = true
has_default _ = false

-- one variable of a declaration
abbrev pub is_declarator : Kind → Bool
is_declarator VariableDeclarator = true
is_declarator _ = false

-- a method of a class
abbrev pub is_method : Kind → Bool
is_method MethodDefinition = true
is_method _ = false

-- a unary operator
abbrev pub is_unary_kind : Kind → Bool
is_unary_kind UnaryExpression = true
is_unary_kind _ = false

-- `++` or `--`
abbrev pub is_update : Kind → Bool
is_update UpdateExpression = true
is_update _ = false

-- a declaration of variables
abbrev pub is_variable_declaration : Kind → Bool
is_variable_declaration VariableDeclaration = true
is_variable_declaration _ = false

-- what compares two values: a binary operator, a switch, a case
abbrev pub compares : Kind → Bool
compares BinaryExpression = true
compares SwitchStatement = true
compares SwitchCase = true
compares _ = false

-- a declaration
abbrev pub declares : Kind → Bool
declares VariableDeclaration = true
declares FunctionDeclaration = true
declares ClassDeclaration = true
declares _ = false

-- a pattern with parts
abbrev pub destructures : Kind → Bool
destructures ArrayPattern = true
destructures ObjectPattern = true
destructures _ = false

-- what no jump leaves: a function, a class, a static block
abbrev pub ends_jumps : Kind → Bool
ends_jumps FunctionExpression = true
ends_jumps FunctionDeclaration = true
ends_jumps ArrowFunctionExpression = true
ends_jumps ClassExpression = true
ends_jumps ClassDeclaration = true
ends_jumps StaticBlock = true
ends_jumps _ = false

-- what gives its second part to its first: an assignment, a declarator, a field
abbrev pub gets_value : Kind → Bool
gets_value AssignmentExpression = true
gets_value VariableDeclarator = true
gets_value PropertyDefinition = true
gets_value _ = false

-- statements that have one as their body
abbrev pub has_body : Kind → Bool
has_body ForStatement = true
has_body ForInStatement = true
has_body ForOfStatement = true
has_body WhileStatement = true
has_body DoWhileStatement = true
has_body IfStatement = true
has_body LabeledStatement = true
has_body _ = false

-- a block, or a switch
abbrev pub has_statement_list : Kind → Bool
has_statement_list BlockStatement = true
has_statement_list SwitchStatement = true
has_statement_list _ = false

-- an operator that may turn a value into another type
abbrev pub is_operation : Kind → Bool
is_operation UnaryExpression = true
is_operation BinaryExpression = true
is_operation AssignmentExpression = true
is_operation _ = false

-- a function with its own `this`
abbrev pub is_own_function : Kind → Bool
is_own_function FunctionExpression = true
is_own_function FunctionDeclaration = true
is_own_function _ = false

-- a test of `if`, `?:` or a loop
abbrev pub is_test_of_statement : Kind → Bool
is_test_of_statement IfStatement = true
is_test_of_statement WhileStatement = true
is_test_of_statement DoWhileStatement = true
is_test_of_statement ForStatement = true
is_test_of_statement ConditionalExpression = true
is_test_of_statement _ = false

-- a statement, but a block, that may be the body of another
abbrev pub is_short_body : Kind → Bool
is_short_body ExpressionStatement = true
is_short_body EmptyStatement = true
is_short_body DebuggerStatement = true
is_short_body ReturnStatement = true
is_short_body ThrowStatement = true
is_short_body BreakStatement = true
is_short_body ContinueStatement = true
is_short_body LabeledStatement = true
is_short_body IfStatement = true
is_short_body SwitchStatement = true
is_short_body TryStatement = true
is_short_body WhileStatement = true
is_short_body DoWhileStatement = true
is_short_body ForStatement = true
is_short_body ForInStatement = true
is_short_body ForOfStatement = true
is_short_body VariableDeclaration = true
is_short_body _ = false

-- a jump, or `throw`
abbrev pub jumps : Kind → Bool
jumps ReturnStatement = true
jumps ThrowStatement = true
jumps BreakStatement = true
jumps ContinueStatement = true
jumps _ = false

-- what makes a new object, an array, a function or a class
abbrev pub makes_object : Kind → Bool
makes_object ArrayExpression = true
makes_object ObjectExpression = true
makes_object FunctionExpression = true
makes_object ArrowFunctionExpression = true
makes_object ClassExpression = true
makes_object _ = false

-- what may make a boolean of a part
abbrev pub makes_boolean : Kind → Bool
makes_boolean IfStatement = true
makes_boolean WhileStatement = true
makes_boolean ConditionalExpression = true
makes_boolean DoWhileStatement = true
makes_boolean ForStatement = true
makes_boolean UnaryExpression = true
makes_boolean CallExpression = true
makes_boolean NewExpression = true
makes_boolean _ = false

-- expressions whose value may be an Error
abbrev pub may_be_error : Kind → Bool
may_be_error Identifier = true
may_be_error CallExpression = true
may_be_error NewExpression = true
may_be_error MemberExpression = true
may_be_error TaggedTemplateExpression = true
may_be_error YieldExpression = true
may_be_error AwaitExpression = true
may_be_error ChainExpression = true
may_be_error ImportExpression = true
may_be_error ThisExpression = true
may_be_error MetaProperty = true
may_be_error _ = false

-- a statement with a label of its own or of another
abbrev pub may_have_label : Kind → Bool
may_have_label LabeledStatement = true
may_have_label BreakStatement = true
may_have_label ContinueStatement = true
may_have_label _ = false

-- what throws where a part is undefined
abbrev pub needs_object : Kind → Bool
needs_object CallExpression = true
needs_object NewExpression = true
needs_object MemberExpression = true
needs_object TaggedTemplateExpression = true
needs_object SpreadElement = true
needs_object ClassDeclaration = true
needs_object ClassExpression = true
needs_object ForOfStatement = true
needs_object BinaryExpression = true
needs_object AssignmentExpression = true
needs_object VariableDeclarator = true
needs_object AssignmentPattern = true
needs_object _ = false

-- what may have two names
abbrev pub renames : Kind → Bool
renames Property = true
renames ImportSpecifier = true
renames ExportSpecifier = true
renames _ = false

-- expressions that a statement may be for their effect
abbrev pub takes_effect : Kind → Bool
takes_effect AssignmentExpression = true
takes_effect CallExpression = true
takes_effect NewExpression = true
takes_effect UpdateExpression = true
takes_effect YieldExpression = true
takes_effect AwaitExpression = true
takes_effect ImportExpression = true
takes_effect _ = false
