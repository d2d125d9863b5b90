-- Which nodes make scopes, and the names that each scope declares, in the order of the tree. A name may stand several times.
-- A function has one scope for its parameters and its body: where ECMA-262 makes two (9.2.10), names of the body that are
-- parameters too are the same binding here.
use Rattle.std.specs.Prelude.{Bool, false, true, not, cond, List, [], ◌++◌, Option, Some, None}
use Rattle.tree.specs.declared.kind.Kind.{Kind}
use Rattle.tree.specs.declared.kind.Kind.TheVariants.{Program, StaticBlock, BlockStatement, ForStatement, ForInStatement, ForOfStatement, CatchClause, ArrowFunctionExpression, FunctionExpression, FunctionDeclaration, ClassExpression, ClassDeclaration, SwitchStatement, VariableDeclaration}
use Rattle.tree.specs.Tree.{Tree, node, Parts, none, part, gap, parts_of, parts_drop}
use Rattle.language.specs.Vocabulary.{is}
use Rattle.scopes.specs.declared.kind.BindingKind.{BindingKind}
use Rattle.scopes.specs.declared.kind.BindingKind.TheVariants.{Param, Catch, FunctionName, ClassName}
use Rattle.scopes.specs.declared.identifier_use.IdentifierUse.{IdentifierUse}
use Rattle.scopes.specs.declared.names.DeclaredIn.{DeclaredIn}
use Rattle.scopes.specs.declared.names.DeclaredIn.TheVariants.{Statement, ForHead, ForInOfHead}
use Rattle.scopes.specs.declared.scope_names.ScopeKind.{ScopeKind}
use Rattle.scopes.specs.declared.scope_names.ScopeKind.TheVariants.{Items, Function, FirstPart, Block, For, Switch, NoScope}
use Rattle.scopes.specs.Roles.{is_body}
use Rattle.name_tables.specs.BoundNames.{each_part}
use Rattle.name_tables.specs.DeclaredNames.{declaration_of}
use Rattle.scopes.specs.Bindings.{Binding, names_in, lexical, stands_in, vars_in}

-- the names of a block or of a case (13.2.5, 13.12)
abbrev pub block_names : Parts → List Binding
block_names parts = each_part (lexical Statement) parts

abbrev pub case_names : Tree → List Binding
case_names tree = block_names (parts_drop 1 (parts_of tree))

-- of an item of a Program or of a function's body, exported or not: `var` at any depth too (14.1, 15.1)
abbrev pub item_names : Tree → List Binding
item_names tree = lexical (stands_in tree) tree ++ vars_in (stands_in tree) (declaration_of tree)

-- of a function's body; that of an arrow may be an expression, which declares nothing
abbrev pub body_names : Tree → List Binding
body_names (node BlockStatement text flags from to parts) = each_part item_names parts
body_names (node _ text flags from to parts) = []

-- of a function: its parts from the first parameter on, the last of which is the body (14.1, 14.2)
abbrev pub function_names : Parts → List Binding
function_names none = []
function_names (gap rest) = function_names rest
function_names (part tree none) = body_names tree
function_names (part tree rest) = names_in Param false tree ++ function_names rest

abbrev pub is_lexical : Tree → Bool
is_lexical (node VariableDeclaration text flags from to parts) = not (is text "var")
is_lexical (node _ text flags from to parts) = false

-- the first part as a pattern; no scope where it is missing
abbrev pub first_scope : BindingKind → Parts → Option (List Binding)
first_scope k (part tree rest) = Some (names_in k false tree)
first_scope k _ = None

-- the first part as a `let` or `const` declaration; no scope where it is none
abbrev pub head_scope : DeclaredIn → Parts → Option (List Binding)
head_scope h (part tree rest) = cond (is_lexical tree) (Some (lexical h tree)) None
head_scope h _ = None

-- the names of a scope, by its kind; none where there is no scope
abbrev pub scope_names : ScopeKind → Parts → Option (List Binding)
scope_names Items parts = Some (each_part item_names parts)
scope_names (Function from) parts = Some (function_names (parts_drop from parts))
scope_names (FirstPart k) parts = first_scope k parts
scope_names Block parts = Some (block_names parts)
scope_names (For h) parts = head_scope h parts
scope_names Switch parts = Some (each_part case_names (parts_drop 1 parts))
scope_names NoScope parts = None

-- the scope that a node makes round all its parts: the Program (15.1), a static block, as a function's body without parameters (15.7 of the
-- 13th edition), an arrow (14.2), a function expression's own name (14.1), a block (13.2), a catch clause (13.15), a loop with `let` or
-- `const` in its head (13.7.4, 13.7.5). The value of a field makes none, since nothing in it declares.
abbrev pub opens_all : IdentifierUse → Kind → ScopeKind
opens_all u Program = Items
opens_all u StaticBlock = Items
opens_all u ArrowFunctionExpression = Function 0
opens_all u FunctionExpression = FirstPart FunctionName
opens_all u BlockStatement = cond (is_body u) NoScope Block
opens_all u CatchClause = FirstPart Catch
opens_all u ForStatement = For ForHead
opens_all u ForInStatement = For ForInOfHead
opens_all u ForOfStatement = For ForInOfHead
opens_all u _ = NoScope

-- the scope that it makes round all but the first, which is a name or a switch's discriminant: a function (14.1), a class's
-- name inside the class (14.6), the cases of a switch (13.12)
abbrev pub opens_others : Kind → ScopeKind
opens_others FunctionDeclaration = Function 1
opens_others FunctionExpression = Function 1
opens_others ClassDeclaration = FirstPart ClassName
opens_others ClassExpression = FirstPart ClassName
opens_others SwitchStatement = Switch
opens_others _ = NoScope

abbrev pub scope_round_all : IdentifierUse → Kind → Parts → Option (List Binding)
scope_round_all u kind parts = scope_names (opens_all u kind) parts

abbrev pub scope_round_others : Kind → Parts → Option (List Binding)
scope_round_others kind parts = scope_names (opens_others kind) parts

-- a function with an `arguments` of its own, which is no reference in it; arrows have none (9.2.10, 14.2)
abbrev pub has_arguments : Kind → Bool
has_arguments FunctionDeclaration = true
has_arguments FunctionExpression = true
has_arguments _ = false
