-- How many parts a node of each kind has, gaps included.
use Rattle.std.specs.Prelude.{ℕ, Bool, true, ◌&&◌, ◌%◌, nat_eq, nat_le}
use Rattle.tree.specs.Tree.{Tree, kind_of, parts_of, part_count}
use Rattle.tree.specs.declared.kind.Kind.{Kind}
use Rattle.tree.specs.declared.kind.Kind.TheVariants as kind

-- whether a node of this kind, with a list among its parts, may have so many; any other kind has one part
abbrev pub has_length : Kind → ℕ → Bool
has_length kind.Program n = true
has_length kind.ArrayExpression n = true
has_length kind.ObjectExpression n = true
has_length kind.ClassBody n = true
has_length kind.ArrayPattern n = true
has_length kind.ObjectPattern n = true
has_length kind.BlockStatement n = true
has_length kind.StaticBlock n = true
has_length kind.ArrowFunctionExpression n = nat_le 1 n
has_length kind.CallExpression n = nat_le 1 n
has_length kind.NewExpression n = nat_le 1 n
has_length kind.SwitchStatement n = nat_le 1 n
has_length kind.SwitchCase n = nat_le 1 n
has_length kind.VariableDeclaration n = nat_le 1 n
has_length kind.ImportDeclaration n = nat_le 1 n
has_length kind.FunctionExpression n = nat_le 2 n
has_length kind.FunctionDeclaration n = nat_le 2 n
has_length kind.SequenceExpression n = nat_le 2 n
has_length kind.ExportNamedDeclaration n = nat_le 2 n
has_length kind.ImportSpecifier n = nat_le 1 n && nat_le n 2
has_length kind.ExportSpecifier n = nat_le 1 n && nat_le n 2
has_length kind.TemplateLiteral n = nat_eq (n % 2) 1
has_length _ n = nat_eq n 1

-- whether a node of this kind, with parts, may have so many
abbrev pub has_pair : Kind → ℕ → Bool
has_pair kind.Property n = nat_eq n 2
has_pair kind.MethodDefinition n = nat_eq n 2
has_pair kind.PropertyDefinition n = nat_eq n 2
has_pair kind.TaggedTemplateExpression n = nat_eq n 2
has_pair kind.MemberExpression n = nat_eq n 2
has_pair kind.MetaProperty n = nat_eq n 2
has_pair kind.BinaryExpression n = nat_eq n 2
has_pair kind.LogicalExpression n = nat_eq n 2
has_pair kind.AssignmentExpression n = nat_eq n 2
has_pair kind.AssignmentPattern n = nat_eq n 2
has_pair kind.LabeledStatement n = nat_eq n 2
has_pair kind.CatchClause n = nat_eq n 2
has_pair kind.WhileStatement n = nat_eq n 2
has_pair kind.DoWhileStatement n = nat_eq n 2
has_pair kind.VariableDeclarator n = nat_eq n 2
has_pair kind.ExportAllDeclaration n = nat_eq n 2
has_pair kind.ClassExpression n = nat_eq n 3
has_pair kind.ConditionalExpression n = nat_eq n 3
has_pair kind.IfStatement n = nat_eq n 3
has_pair kind.TryStatement n = nat_eq n 3
has_pair kind.ForInStatement n = nat_eq n 3
has_pair kind.ForOfStatement n = nat_eq n 3
has_pair kind.ClassDeclaration n = nat_eq n 3
has_pair kind.ForStatement n = nat_eq n 4
has_pair k n = has_length k n

-- whether a node of this kind may have so many
abbrev pub has_arity : Kind → ℕ → Bool
has_arity kind.Identifier n = nat_eq n 0
has_arity kind.PrivateIdentifier n = nat_eq n 0
has_arity kind.Literal n = nat_eq n 0
has_arity kind.ThisExpression n = nat_eq n 0
has_arity kind.Super n = nat_eq n 0
has_arity kind.TemplateElement n = nat_eq n 0
has_arity kind.EmptyStatement n = nat_eq n 0
has_arity kind.DebuggerStatement n = nat_eq n 0
has_arity k n = has_pair k n

-- a node with as many parts as its kind has
abbrev pub is_whole : Tree → Bool
is_whole t = has_arity (kind_of t) (part_count (parts_of t))
