-- The kinds of nodes: ESTree's name of each, and what they have in common.
use Rattle.std.specs.Prelude.{ℕ, Bool, true, false, List, codes}
use Rattle.tree.specs.declared.kind.Kind.{Kind}
use Rattle.tree.specs.declared.kind.Kind.TheVariants as kind

-- ESTree's `type`
abbrev pub type_name : Kind → List ℕ
type_name kind.Program = codes "Program"
type_name kind.Identifier = codes "Identifier"
type_name kind.PrivateIdentifier = codes "PrivateIdentifier"
type_name kind.Literal = codes "Literal"
type_name kind.ThisExpression = codes "ThisExpression"
type_name kind.Super = codes "Super"
type_name kind.ArrayExpression = codes "ArrayExpression"
type_name kind.ObjectExpression = codes "ObjectExpression"
type_name kind.Property = codes "Property"
type_name kind.SpreadElement = codes "SpreadElement"
type_name kind.FunctionExpression = codes "FunctionExpression"
type_name kind.ArrowFunctionExpression = codes "ArrowFunctionExpression"
type_name kind.ClassExpression = codes "ClassExpression"
type_name kind.ClassBody = codes "ClassBody"
type_name kind.MethodDefinition = codes "MethodDefinition"
type_name kind.PropertyDefinition = codes "PropertyDefinition"
type_name kind.StaticBlock = codes "StaticBlock"
type_name kind.TemplateLiteral = codes "TemplateLiteral"
type_name kind.TemplateElement = codes "TemplateElement"
type_name kind.TaggedTemplateExpression = codes "TaggedTemplateExpression"
type_name kind.MemberExpression = codes "MemberExpression"
type_name kind.CallExpression = codes "CallExpression"
type_name kind.NewExpression = codes "NewExpression"
type_name kind.MetaProperty = codes "MetaProperty"
type_name kind.ImportExpression = codes "ImportExpression"
type_name kind.ChainExpression = codes "ChainExpression"
type_name kind.UpdateExpression = codes "UpdateExpression"
type_name kind.UnaryExpression = codes "UnaryExpression"
type_name kind.AwaitExpression = codes "AwaitExpression"
type_name kind.BinaryExpression = codes "BinaryExpression"
type_name kind.LogicalExpression = codes "LogicalExpression"
type_name kind.ConditionalExpression = codes "ConditionalExpression"
type_name kind.AssignmentExpression = codes "AssignmentExpression"
type_name kind.SequenceExpression = codes "SequenceExpression"
type_name kind.YieldExpression = codes "YieldExpression"
type_name kind.ArrayPattern = codes "ArrayPattern"
type_name kind.ObjectPattern = codes "ObjectPattern"
type_name kind.AssignmentPattern = codes "AssignmentPattern"
type_name kind.RestElement = codes "RestElement"
type_name kind.ExpressionStatement = codes "ExpressionStatement"
type_name kind.BlockStatement = codes "BlockStatement"
type_name kind.EmptyStatement = codes "EmptyStatement"
type_name kind.DebuggerStatement = codes "DebuggerStatement"
type_name kind.ReturnStatement = codes "ReturnStatement"
type_name kind.ThrowStatement = codes "ThrowStatement"
type_name kind.BreakStatement = codes "BreakStatement"
type_name kind.ContinueStatement = codes "ContinueStatement"
type_name kind.LabeledStatement = codes "LabeledStatement"
type_name kind.IfStatement = codes "IfStatement"
type_name kind.SwitchStatement = codes "SwitchStatement"
type_name kind.SwitchCase = codes "SwitchCase"
type_name kind.TryStatement = codes "TryStatement"
type_name kind.CatchClause = codes "CatchClause"
type_name kind.WhileStatement = codes "WhileStatement"
type_name kind.DoWhileStatement = codes "DoWhileStatement"
type_name kind.ForStatement = codes "ForStatement"
type_name kind.ForInStatement = codes "ForInStatement"
type_name kind.ForOfStatement = codes "ForOfStatement"
type_name kind.VariableDeclaration = codes "VariableDeclaration"
type_name kind.VariableDeclarator = codes "VariableDeclarator"
type_name kind.FunctionDeclaration = codes "FunctionDeclaration"
type_name kind.ClassDeclaration = codes "ClassDeclaration"
type_name kind.ImportDeclaration = codes "ImportDeclaration"
type_name kind.ImportSpecifier = codes "ImportSpecifier"
type_name kind.ImportDefaultSpecifier = codes "ImportDefaultSpecifier"
type_name kind.ImportNamespaceSpecifier = codes "ImportNamespaceSpecifier"
type_name kind.ExportNamedDeclaration = codes "ExportNamedDeclaration"
type_name kind.ExportSpecifier = codes "ExportSpecifier"
type_name kind.ExportDefaultDeclaration = codes "ExportDefaultDeclaration"
type_name kind.ExportAllDeclaration = codes "ExportAllDeclaration"

abbrev pub is_expression : Kind → Bool
is_expression kind.Identifier = true
is_expression kind.Literal = true
is_expression kind.ThisExpression = true
is_expression kind.ArrayExpression = true
is_expression kind.ObjectExpression = true
is_expression kind.FunctionExpression = true
is_expression kind.ArrowFunctionExpression = true
is_expression kind.ClassExpression = true
is_expression kind.TemplateLiteral = true
is_expression kind.TaggedTemplateExpression = true
is_expression kind.MemberExpression = true
is_expression kind.CallExpression = true
is_expression kind.NewExpression = true
is_expression kind.MetaProperty = true
is_expression kind.ImportExpression = true
is_expression kind.ChainExpression = true
is_expression kind.UpdateExpression = true
is_expression kind.UnaryExpression = true
is_expression kind.AwaitExpression = true
is_expression kind.BinaryExpression = true
is_expression kind.LogicalExpression = true
is_expression kind.ConditionalExpression = true
is_expression kind.AssignmentExpression = true
is_expression kind.SequenceExpression = true
is_expression kind.YieldExpression = true
is_expression _ = false

-- a simple target
abbrev pub is_target : Kind → Bool
is_target kind.Identifier = true
is_target kind.MemberExpression = true
is_target _ = false

abbrev pub is_pattern : Kind → Bool
is_pattern kind.ArrayPattern = true
is_pattern kind.ObjectPattern = true
is_pattern _ = false

-- a part of a chain above its base
abbrev pub is_chain_part : Kind → Bool
is_chain_part kind.MemberExpression = true
is_chain_part kind.CallExpression = true
is_chain_part _ = false

abbrev pub is_function : Kind → Bool
is_function kind.FunctionExpression = true
is_function kind.FunctionDeclaration = true
is_function kind.ArrowFunctionExpression = true
is_function _ = false

abbrev pub is_loop : Kind → Bool
is_loop kind.WhileStatement = true
is_loop kind.DoWhileStatement = true
is_loop kind.ForStatement = true
is_loop kind.ForInStatement = true
is_loop kind.ForOfStatement = true
is_loop _ = false

abbrev pub is_identifier : Kind → Bool
is_identifier kind.Identifier = true
is_identifier _ = false

abbrev pub is_private : Kind → Bool
is_private kind.PrivateIdentifier = true
is_private _ = false

abbrev pub is_rest : Kind → Bool
is_rest kind.RestElement = true
is_rest _ = false

abbrev pub is_spread : Kind → Bool
is_spread kind.SpreadElement = true
is_spread _ = false

abbrev pub is_super : Kind → Bool
is_super kind.Super = true
is_super _ = false
