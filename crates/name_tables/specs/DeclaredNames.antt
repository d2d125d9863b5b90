-- The names that declarations declare, in the order of the tree, each as what is made of its identifier.
use Rattle.std.specs.Prelude.{ℕ, Bool, cond, List, [], ◌++◌, codes}
use Rattle.std.specs.Str.{bytes_eq}
use Rattle.tree.specs.declared.kind.Kind.{Kind}
use Rattle.tree.specs.declared.kind.Kind.TheVariants.{VariableDeclaration, FunctionDeclaration, ClassDeclaration, ImportDeclaration, ExportNamedDeclaration, ExportDefaultDeclaration}
use Rattle.tree.specs.Tree.{Tree, node, Parts, none, part, gap, parts_of, parts_drop}
use Rattle.name_tables.specs.BoundNames.{each_part, bound_names, first_bound_names, last_bound_names}

-- the names of declarators (BoundNames, 13.3.1.2, 13.3.2.1); what is made of one depends on the declarator's parts
abbrev pub declarator_names : {B : Type 0} → (Parts → Tree → B) → Parts → List B
declarator_names f parts = each_part (λ d. first_bound_names (f (parts_of d)) (parts_of d)) parts

-- what an import's part binds: its last part, as a local name (BoundNames, 16.2.2.2 of the 13th edition); a source has no parts
abbrev pub specifier_names : {B : Type 0} → (Tree → B) → Tree → List B
specifier_names f specifier = last_bound_names f (parts_of specifier)

-- what an export declares, and any other item itself (16.2.3 of the 13th edition)
abbrev pub declaration_of : Tree → Tree
declaration_of (node ExportNamedDeclaration text flags from to (part declaration rest)) = declaration
declaration_of (node ExportDefaultDeclaration text flags from to (part declaration rest)) = declaration
declaration_of tree = tree

-- The names that a declaration declares by `let` and `const` (what is made of them depends on the word too), by an import, by a class,
-- and by a function where `b` says so.
abbrev pub own_lexical_names : {B : Type 0} → Bool → (List ℕ → Parts → Tree → B) → (function class import : Tree → B) → Tree → List B
own_lexical_names b f g h i (node VariableDeclaration text flags from to parts) = cond (bytes_eq text (codes "var")) [] (declarator_names (f text) parts)
own_lexical_names b f g h i (node FunctionDeclaration text flags from to parts) = cond b (first_bound_names g parts) []
own_lexical_names b f g h i (node ClassDeclaration text flags from to parts) = first_bound_names h parts
own_lexical_names b f g h i (node ImportDeclaration text flags from to parts) = each_part (specifier_names i) parts
own_lexical_names b f g h i (node _ text flags from to parts) = []

-- Those of an item, exported or not (LexicallyDeclaredNames, 13.2.5; 16.2.1.2 of the 13th edition): of functions not at the top of a
-- script or of a function (TopLevelLexicallyDeclaredNames, 13.2.7).
abbrev pub lexically_declared_names : {B : Type 0} → Bool → (List ℕ → Parts → Tree → B) → (function class import : Tree → B) → Tree → List B
lexically_declared_names b f g h i tree = own_lexical_names b f g h i (declaration_of tree)

-- the names that a declaration declares by `var` (VarDeclaredNames, 13.3.2.2)
abbrev pub own_var_names : {B : Type 0} → (Parts → Tree → B) → Kind → List ℕ → Parts → List B
own_var_names f VariableDeclaration text parts = cond (bytes_eq text (codes "var")) (declarator_names f parts) []
own_var_names f _ text parts = []

-- what a case of a switch gives by its statements, which stand behind its test (13.12.5)
abbrev pub case_names : {B : Type 0} → (Tree → List B) → Tree → List B
case_names f case = each_part f (parts_drop 1 (parts_of case))

-- the names of a function's parameters: all its parts but the last, which is the body (BoundNames, 14.1.3)
abbrev pub parameter_names : {B : Type 0} → (Tree → B) → Parts → List B
parameter_names f none = []
parameter_names f (part tree none) = []
parameter_names f (part tree rest) = bound_names f tree ++ parameter_names f rest
parameter_names f (gap rest) = parameter_names f rest
