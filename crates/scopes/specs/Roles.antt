-- What a node is to its parent: how an identifier that stands there is used.
use Rattle.std.specs.Prelude.{ℕ, Bool, true, false, cond, nat_eq, List}
use Rattle.tree.specs.declared.kind.Kind.{Kind}
use Rattle.tree.specs.declared.kind.Kind.TheVariants.{ArrayPattern, ObjectPattern, RestElement, AssignmentPattern, Property, MethodDefinition, PropertyDefinition, ImportSpecifier, ImportDefaultSpecifier, ImportNamespaceSpecifier, ExportNamedDeclaration, ExportSpecifier, ExportAllDeclaration, FunctionExpression, ArrowFunctionExpression, FunctionDeclaration, ClassExpression, ClassDeclaration, MetaProperty, MemberExpression, CallExpression, NewExpression, UpdateExpression, UnaryExpression, AssignmentExpression, BreakStatement, ContinueStatement, LabeledStatement, CatchClause, ForInStatement, ForOfStatement, VariableDeclarator}
use Rattle.tree.specs.declared.kind.Flags.{Flags}
use Rattle.language.specs.Vocabulary.{is}
use Rattle.scopes.specs.declared.identifier_use.IdentifierUse.{IdentifierUse}
use Rattle.scopes.specs.declared.identifier_use.PartRoles.{PartRoles}
use Rattle.scopes.specs.declared.identifier_use.PartRoles.TheVariants.{Same, All, First, Function}
use Rattle.scopes.specs.declared.identifier_use.IdentifierUse.TheVariants.{Read, Write, ReadWrite, Typeof, Called, Constructed, NoReference, Body}

-- one role for the first part, another for the others
abbrev pub first_else : ℕ → IdentifierUse → IdentifierUse → IdentifierUse
first_else i u v = cond (nat_eq i 0) u v

-- a key in brackets is an expression; any other is a name (12.2.6, 12.3.2)
abbrev pub key_role : Flags → IdentifierUse
key_role flags = cond flags.computed Read NoReference

-- the target of `=` is written, that of any other assignment operator is read too (12.15.4)
abbrev pub target_role : List ℕ → IdentifierUse
target_role text = cond (is text "=") Write ReadWrite

-- the operand of `typeof` may be a name that nothing declares (12.5.5)
abbrev pub operand_role : List ℕ → IdentifierUse
operand_role text = cond (is text "typeof") Typeof Read

-- what an export names is read, unless it comes from another module (16.2.3 of the 13th edition)
abbrev pub exported_role : Bool → IdentifierUse
exported_role has_source = cond has_source NoReference Read

-- the roles of a node's parts, by its own role, its kind, text and flags, and whether its last part is there. A pattern hands its role down
-- to its targets (12.15.5, 13.7.5), and an export to its specifiers; labels (13.8, 13.9, 13.13), names that are bound, `new.target` (12.3)
-- and names of other modules are no references.
abbrev pub part_roles : IdentifierUse → Kind → List ℕ → Flags → Bool → PartRoles
part_roles u ArrayPattern text flags b = Same
part_roles u ObjectPattern text flags b = Same
part_roles u RestElement text flags b = Same
part_roles u AssignmentPattern text flags b = First u Read
part_roles u Property text flags b = First (key_role flags) u
part_roles u MethodDefinition text flags b = First (key_role flags) Read
part_roles u FunctionExpression text flags b = Function
part_roles u FunctionDeclaration text flags b = Function
part_roles u ArrowFunctionExpression text flags b = Function
part_roles u ClassExpression text flags b = First NoReference Read
part_roles u ClassDeclaration text flags b = First NoReference Read
part_roles u MetaProperty text flags b = All NoReference
part_roles u MemberExpression text flags b = First Read (key_role flags)
part_roles u CallExpression text flags b = First Called Read
part_roles u NewExpression text flags b = First Constructed Read
part_roles u UpdateExpression text flags b = All ReadWrite
part_roles u UnaryExpression text flags b = All (operand_role text)
part_roles u AssignmentExpression text flags b = First (target_role text) Read
part_roles u BreakStatement text flags b = All NoReference
part_roles u ContinueStatement text flags b = All NoReference
part_roles u LabeledStatement text flags b = First NoReference Read
part_roles u CatchClause text flags b = First NoReference Read
part_roles u ForInStatement text flags b = First Write Read
part_roles u ForOfStatement text flags b = First Write Read
part_roles u VariableDeclarator text flags b = First NoReference Read
part_roles u PropertyDefinition text flags b = First (key_role flags) Read
part_roles u ImportSpecifier text flags b = All NoReference
part_roles u ImportDefaultSpecifier text flags b = All NoReference
part_roles u ImportNamespaceSpecifier text flags b = All NoReference
part_roles u ExportNamedDeclaration text flags b = All (exported_role b)
part_roles u ExportSpecifier text flags b = First u NoReference
part_roles u ExportAllDeclaration text flags b = All NoReference
part_roles u kind text flags b = All Read

-- the role of the part at a place
abbrev pub role_by : PartRoles → IdentifierUse → (last i : ℕ) → IdentifierUse
role_by Same u last i = u
role_by (All v) u last i = v
role_by (First v x) u last i = first_else i v x
role_by Function u last i = cond (nat_eq i last) Body NoReference

abbrev pub part_role : IdentifierUse → Kind → List ℕ → Flags → Bool → (last i : ℕ) → IdentifierUse
part_role u kind text flags b last i = role_by (part_roles u kind text flags b) u last i

abbrev pub is_reference : IdentifierUse → Bool
is_reference NoReference = false
is_reference _ = true

abbrev pub does_read : IdentifierUse → Bool
does_read Write = false
does_read _ = true

abbrev pub does_write : IdentifierUse → Bool
does_write Write = true
does_write ReadWrite = true
does_write _ = false

abbrev pub is_typeof_operand : IdentifierUse → Bool
is_typeof_operand Typeof = true
is_typeof_operand _ = false

-- the callee of a call (12.3.6), or of `new` (12.3.5)
abbrev pub is_called : IdentifierUse → Bool
is_called Called = true
is_called _ = false

abbrev pub is_constructed : IdentifierUse → Bool
is_constructed Constructed = true
is_constructed _ = false

abbrev pub is_body : IdentifierUse → Bool
is_body Body = true
is_body _ = false
