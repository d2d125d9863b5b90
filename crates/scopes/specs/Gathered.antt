-- The definitions of names by the cases that the code distinguishes, tied to `Bindings` by proofs.
use Rattle.std.specs.Prelude.{ℕ, true, false, cond, List, Some}
use Rattle.tree.specs.declared.kind.Kind.{Kind}
use Rattle.tree.specs.declared.kind.Kind.TheVariants.{VariableDeclaration}
use Rattle.tree.specs.Tree.{Parts}
use Rattle.language.specs.Vocabulary.{is}
use Rattle.scopes.specs.declared.kind.BindingKind.{BindingKind}
use Rattle.scopes.specs.declared.kind.BindingKind.TheVariants.{Var, Let, Const, Function, Class, Param, Import}
use Rattle.name_tables.specs.declared.declared.DeclaratorAs.{DeclaratorAs}
use Rattle.name_tables.specs.declared.declared.LexicalAs.{LexicalAs}
use Rattle.name_tables.specs.DeclaredNames.{declarator_names, parameter_names}
use Rattle.scopes.specs.declared.names.DeclaredAs.{DeclaredAs}
use Rattle.scopes.specs.declared.names.DeclaredIn.{DeclaredIn}
use Rattle.scopes.specs.declared.names.DeclaredIn.TheVariants.{Statement, Export, ForHead, ForInOfHead}
use Rattle.scopes.specs.declared.names.VarNames.{VarNames}
use Rattle.scopes.specs.declared.names.VarNames.TheVariants as var
use Rattle.scopes.specs.Bindings.{Binding, binding_at, holds_statements, is_exported, settles}

-- what the names of a declarator are declared as
abbrev pub declarator_as : DeclaredIn → BindingKind → DeclaratorAs DeclaredAs
declarator_as Statement k = record { initialized = record { kind = k; settled = true; exported = false }; bare = record { kind = k; settled = false; exported = false } }
declarator_as Export k = record { initialized = record { kind = k; settled = true; exported = true }; bare = record { kind = k; settled = false; exported = true } }
declarator_as ForHead k = record { initialized = record { kind = k; settled = false; exported = false }; bare = record { kind = k; settled = false; exported = false } }
declarator_as ForInOfHead k = record { initialized = record { kind = k; settled = true; exported = false }; bare = record { kind = k; settled = true; exported = false } }

-- what names are declared as that items declare lexically
abbrev pub lexical_as : DeclaredIn → LexicalAs DeclaredAs
lexical_as h = record { by_let = declarator_as h Let; by_const = declarator_as h Const; class = record { kind = Class; settled = false; exported = is_exported h }; import = record { kind = Import; settled = false; exported = false }; function = Some (record { kind = Function; settled = false; exported = is_exported h }) }

-- the names of a declaration by `var`
abbrev pub declared_by_var : DeclaredIn → Parts → List Binding
declared_by_var h parts = declarator_names (λ ps. binding_at Var (settles h ps) (is_exported h)) parts

-- which parts of an item have the names that it declares by `var`, by its kind and text
abbrev pub var_names_of : Kind → List ℕ → VarNames
var_names_of VariableDeclaration text = cond (is text "var") var.Declarators var.Nothing
var_names_of kind text = cond (holds_statements kind) var.Parts var.Nothing

-- the names of a function's parameters
abbrev pub parameters : Parts → List Binding
parameters parts = parameter_names (binding_at Param false false) parts
