-- Kinds by number, in the order of their declaration.
use Rattle.std.specs.Prelude.{ℕ, List, [], ◌∷◌}
use Rattle.tree.specs.declared.kind.Kind.{Kind}
use Rattle.tree.specs.declared.kind.Kind.TheVariants.{Program, Identifier, PrivateIdentifier, Literal, ThisExpression, Super, ArrayExpression, ObjectExpression, Property, SpreadElement, FunctionExpression, ArrowFunctionExpression, ClassExpression, ClassBody, MethodDefinition, PropertyDefinition, StaticBlock, TemplateLiteral, TemplateElement, TaggedTemplateExpression, MemberExpression, CallExpression, NewExpression, MetaProperty, ImportExpression, ChainExpression, UpdateExpression, UnaryExpression, AwaitExpression, BinaryExpression, LogicalExpression, ConditionalExpression, AssignmentExpression, SequenceExpression, YieldExpression, ArrayPattern, ObjectPattern, AssignmentPattern, RestElement, ExpressionStatement, BlockStatement, EmptyStatement, DebuggerStatement, ReturnStatement, ThrowStatement, BreakStatement, ContinueStatement, LabeledStatement, IfStatement, SwitchStatement, SwitchCase, TryStatement, CatchClause, WhileStatement, DoWhileStatement, ForStatement, ForInStatement, ForOfStatement, VariableDeclaration, VariableDeclarator, FunctionDeclaration, ClassDeclaration, ImportDeclaration, ImportSpecifier, ImportDefaultSpecifier, ImportNamespaceSpecifier, ExportNamedDeclaration, ExportSpecifier, ExportDefaultDeclaration, ExportAllDeclaration}

abbrev pub all_kinds : List Kind
all_kinds = Program ∷ Identifier ∷ PrivateIdentifier ∷ Literal ∷ ThisExpression ∷ Super ∷ ArrayExpression ∷ ObjectExpression ∷ Property ∷ SpreadElement ∷ FunctionExpression ∷ ArrowFunctionExpression ∷ ClassExpression ∷ ClassBody ∷ MethodDefinition ∷ PropertyDefinition ∷ StaticBlock ∷ TemplateLiteral ∷ TemplateElement ∷ TaggedTemplateExpression ∷ MemberExpression ∷ CallExpression ∷ NewExpression ∷ MetaProperty ∷ ImportExpression ∷ ChainExpression ∷ UpdateExpression ∷ UnaryExpression ∷ AwaitExpression ∷ BinaryExpression ∷ LogicalExpression ∷ ConditionalExpression ∷ AssignmentExpression ∷ SequenceExpression ∷ YieldExpression ∷ ArrayPattern ∷ ObjectPattern ∷ AssignmentPattern ∷ RestElement ∷ ExpressionStatement ∷ BlockStatement ∷ EmptyStatement ∷ DebuggerStatement ∷ ReturnStatement ∷ ThrowStatement ∷ BreakStatement ∷ ContinueStatement ∷ LabeledStatement ∷ IfStatement ∷ SwitchStatement ∷ SwitchCase ∷ TryStatement ∷ CatchClause ∷ WhileStatement ∷ DoWhileStatement ∷ ForStatement ∷ ForInStatement ∷ ForOfStatement ∷ VariableDeclaration ∷ VariableDeclarator ∷ FunctionDeclaration ∷ ClassDeclaration ∷ ImportDeclaration ∷ ImportSpecifier ∷ ImportDefaultSpecifier ∷ ImportNamespaceSpecifier ∷ ExportNamedDeclaration ∷ ExportSpecifier ∷ ExportDefaultDeclaration ∷ ExportAllDeclaration ∷ []

abbrev pub kind_number : Kind → ℕ
kind_number Program = 0
kind_number Identifier = 1
kind_number PrivateIdentifier = 2
kind_number Literal = 3
kind_number ThisExpression = 4
kind_number Super = 5
kind_number ArrayExpression = 6
kind_number ObjectExpression = 7
kind_number Property = 8
kind_number SpreadElement = 9
kind_number FunctionExpression = 10
kind_number ArrowFunctionExpression = 11
kind_number ClassExpression = 12
kind_number ClassBody = 13
kind_number MethodDefinition = 14
kind_number PropertyDefinition = 15
kind_number StaticBlock = 16
kind_number TemplateLiteral = 17
kind_number TemplateElement = 18
kind_number TaggedTemplateExpression = 19
kind_number MemberExpression = 20
kind_number CallExpression = 21
kind_number NewExpression = 22
kind_number MetaProperty = 23
kind_number ImportExpression = 24
kind_number ChainExpression = 25
kind_number UpdateExpression = 26
kind_number UnaryExpression = 27
kind_number AwaitExpression = 28
kind_number BinaryExpression = 29
kind_number LogicalExpression = 30
kind_number ConditionalExpression = 31
kind_number AssignmentExpression = 32
kind_number SequenceExpression = 33
kind_number YieldExpression = 34
kind_number ArrayPattern = 35
kind_number ObjectPattern = 36
kind_number AssignmentPattern = 37
kind_number RestElement = 38
kind_number ExpressionStatement = 39
kind_number BlockStatement = 40
kind_number EmptyStatement = 41
kind_number DebuggerStatement = 42
kind_number ReturnStatement = 43
kind_number ThrowStatement = 44
kind_number BreakStatement = 45
kind_number ContinueStatement = 46
kind_number LabeledStatement = 47
kind_number IfStatement = 48
kind_number SwitchStatement = 49
kind_number SwitchCase = 50
kind_number TryStatement = 51
kind_number CatchClause = 52
kind_number WhileStatement = 53
kind_number DoWhileStatement = 54
kind_number ForStatement = 55
kind_number ForInStatement = 56
kind_number ForOfStatement = 57
kind_number VariableDeclaration = 58
kind_number VariableDeclarator = 59
kind_number FunctionDeclaration = 60
kind_number ClassDeclaration = 61
kind_number ImportDeclaration = 62
kind_number ImportSpecifier = 63
kind_number ImportDefaultSpecifier = 64
kind_number ImportNamespaceSpecifier = 65
kind_number ExportNamedDeclaration = 66
kind_number ExportSpecifier = 67
kind_number ExportDefaultDeclaration = 68
kind_number ExportAllDeclaration = 69
