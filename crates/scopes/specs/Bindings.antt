-- What a pattern, a declaration or a statement list item declares, in the order of the tree.
use Rattle.std.specs.Prelude.{ℕ, Bool, true, false, cond, ◌||◌, List, [], ◌∷◌, ◌++◌}
use Rattle.std.specs.Str.{bytes_eq}
use Rattle.tree.specs.declared.kind.Kind.{Kind}
use Rattle.tree.specs.declared.kind.Kind.TheVariants.{ExportNamedDeclaration, ExportDefaultDeclaration, BlockStatement, LabeledStatement, IfStatement, SwitchStatement, SwitchCase, TryStatement, CatchClause, WhileStatement, DoWhileStatement, ForStatement, ForInStatement, ForOfStatement}
use Rattle.tree.specs.Tree.{Tree, node, Parts, none, part, gap, text_of, start_of, stop_of}
use Rattle.language.specs.FirstPart.{others}
use Rattle.language.specs.Vocabulary.{is}
use Rattle.name_tables.specs.BoundNames.{bound_names, first_bound_names}
use Rattle.name_tables.specs.DeclaredNames.{declarator_names, lexically_declared_names, own_var_names}
use Rattle.scopes.specs.declared.kind.BindingKind.{BindingKind}
use Rattle.scopes.specs.declared.names.DeclaredIn.{DeclaredIn}
use Rattle.scopes.specs.declared.names.DeclaredIn.TheVariants.{Statement, Export, ForHead, ForInOfHead}
use Rattle.scopes.specs.declared.kind.BindingKind.TheVariants.{Var, Let, Const, Function, Class, Import}

-- A name that a scope declares, with the place of its identifier. `settled`: the declarator has an initializer, or stands in a
-- for-in or for-of head; never in the head of a plain `for`. `shadows`: a scope further out declares the name too. `exported`: a
-- declaration of the name stands in an export (16.2.3 of the 13th edition).
pub record Binding : Type 0 where
  pub name : List ℕ
  pub kind : BindingKind
  pub start : ℕ
  pub stop : ℕ
  pub settled : Bool
  pub shadows : Bool
  pub exported : Bool

-- the binding that an identifier makes, not shadowing as yet
abbrev pub binding_at : BindingKind → (settled exported : Bool) → Tree → Binding
binding_at k b x tree = record { name = text_of tree; kind = k; start = start_of tree; stop = stop_of tree; settled = b; shadows = false; exported = x }

-- the names of a pattern (BoundNames, 12.1.2, 13.3.3.1), all declared alike
abbrev pub names_in : BindingKind → Bool → Tree → List Binding
names_in k b tree = bound_names (binding_at k b false) tree

-- those of the first part
abbrev pub first_names : BindingKind → Bool → Parts → List Binding
first_names k b parts = first_bound_names (binding_at k b false) parts

abbrev pub is_initialised : Parts → Bool
is_initialised (part tree rest) = true
is_initialised _ = false

-- whether a declarator gives its names a value, by where its declaration stands; in the head of a plain `for` it doesn't count
abbrev pub settles : DeclaredIn → Parts → Bool
settles Statement parts = is_initialised (others parts)
settles Export parts = is_initialised (others parts)
settles ForHead parts = false
settles ForInOfHead parts = true

-- a declaration in an export
abbrev pub is_exported : DeclaredIn → Bool
is_exported Export = true
is_exported _ = false

-- where what an item declares stands
abbrev pub stands_in : Tree → DeclaredIn
stands_in (node ExportNamedDeclaration text flags from to parts) = Export
stands_in (node ExportDefaultDeclaration text flags from to parts) = Export
stands_in (node _ text flags from to parts) = Statement

abbrev pub word_kind : List ℕ → BindingKind
word_kind text = cond (is text "var") Var (cond (is text "let") Let Const)

-- the names of a declaration, whose parts are its declarators (13.3.1.2, 13.3.2.1)
abbrev pub declared : DeclaredIn → List ℕ → Parts → List Binding
declared h text parts = declarator_names (λ ps. binding_at (word_kind text) (settles h ps) (is_exported h)) parts

-- what a node declares in the scope that it stands in: `let`, `const`, a function, a class (LexicallyDeclaredNames, 13.2.5), an import
-- (16.2.2.2 of the 13th edition)
abbrev pub lexical : DeclaredIn → Tree → List Binding
lexical h tree =
    lexically_declared_names true (λ text ps. binding_at (word_kind text) (settles h ps) (is_exported h)) (binding_at Function false (is_exported h))
    (binding_at Class false (is_exported h)) (binding_at Import false false) tree

-- the kinds that have statements among their parts, the Program and functions aside
abbrev pub holds_statements : Kind → Bool
holds_statements BlockStatement = true
holds_statements LabeledStatement = true
holds_statements IfStatement = true
holds_statements SwitchStatement = true
holds_statements SwitchCase = true
holds_statements TryStatement = true
holds_statements CatchClause = true
holds_statements WhileStatement = true
holds_statements DoWhileStatement = true
holds_statements ForStatement = true
holds_statements ForInStatement = true
holds_statements ForOfStatement = true
holds_statements _ = false

abbrev pub own_vars : DeclaredIn → Kind → List ℕ → Parts → List Binding
own_vars h kind text parts = own_var_names (λ ps. binding_at (word_kind text) (settles h ps) (is_exported h)) kind text parts

unfoldable mutual
  -- the names of `var` in a statement at any depth, but not in functions inside it (VarDeclaredNames, 13.1.5, 13.2.11)
  pub vars_in : DeclaredIn → Tree → List Binding
  vars_in h (node node_kind text flags from to parts) = own_vars h node_kind text parts ++ cond (holds_statements node_kind) (parts_vars h parts) []

  pub parts_vars : DeclaredIn → Parts → List Binding
  parts_vars h none = []
  parts_vars h (part tree rest) = vars_in h tree ++ parts_vars h rest
  parts_vars h (gap rest) = parts_vars h rest

abbrev pub has_name : List ℕ → List Binding → Bool
has_name text [] = false
has_name text (b ∷ bs) = bytes_eq text b.name || has_name text bs
