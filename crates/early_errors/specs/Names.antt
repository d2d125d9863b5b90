-- The names that a tree binds, declares or assigns, each with the place of its identifier.
use Rattle.std.specs.Prelude.{ℕ, Bool, true, false, cond, ◌||◌, List, [], ◌∷◌, ◌++◌, map, filter}
use Rattle.std.specs.Str.{bytes_eq}
use Rattle.tree.specs.declared.kind.Kind.{Kind}
use Rattle.tree.specs.declared.kind.Kind.TheVariants.{StaticBlock, FunctionExpression, ArrowFunctionExpression, BlockStatement, FunctionDeclaration}
pub use Rattle.tree.specs.Kinds.{is_function}
use Rattle.tree.specs.Tree.{Tree, node, Parts, none, part, gap, text_of, start_of}
use Rattle.language.specs.FirstPart.{others}
use Rattle.name_tables.specs.BoundNames.{bound_names, first_bound_names}
use Rattle.name_tables.specs.DeclaredNames as declared
use Rattle.name_tables.specs.DeclaredNames.{declarator_names, lexically_declared_names, own_var_names, specifier_names}

-- a name and its place
abbrev pub Named : Type 0
Named = List ℕ × ℕ

abbrev pub places : List Named → List ℕ
places xs = map (λ x. x.1) xs

abbrev pub when : Bool → List ℕ → List ℕ
when b text = cond b text []

abbrev pub has_name : List ℕ → List Named → Bool
has_name text [] = false
has_name text (x ∷ xs) = bytes_eq text x.0 || has_name text xs

-- the second and later of each name
abbrev pub repeated : List Named → List Named → List Named
repeated before [] = []
repeated before (x ∷ xs) = cond (has_name x.0 before) (x ∷ []) [] ++ repeated (x ∷ before) xs

abbrev pub twice : List Named → List Named
twice xs = repeated [] xs

-- those of the first list whose names are in the second too
abbrev pub shared : List Named → List Named → List Named
shared xs ys = filter (λ x. has_name x.0 ys) xs

-- an identifier's name and place
abbrev pub name_at : Tree → Named
name_at tree = (text_of tree, start_of tree)

-- the names that a pattern or a target binds or assigns (13.3.3.1)
abbrev pub names_in : Tree → List Named
names_in tree = bound_names name_at tree

-- those of the first part
abbrev pub first_names : Parts → List Named
first_names parts = first_bound_names name_at parts

-- the names of a declaration, whose parts are its declarators
abbrev pub declared_names : Parts → List Named
declared_names parts = declarator_names (λ ps. name_at) parts

abbrev pub own_vars : Kind → List ℕ → Parts → List Named
own_vars kind text parts = own_var_names (λ ps. name_at) kind text parts

abbrev pub is_static_block : Kind → Bool
is_static_block StaticBlock = true
is_static_block _ = false

unfoldable mutual
  -- the names of `var` at any depth outside inner functions (13.1.5)
  pub var_names : Tree → List Named
  var_names (node kind text flags from to parts) = cond (is_function kind || is_static_block kind) [] (own_vars kind text parts ++ parts_vars parts)

  pub parts_vars : Parts → List Named
  parts_vars none = []
  parts_vars (part tree rest) = var_names tree ++ parts_vars rest
  parts_vars (gap rest) = parts_vars rest

-- the name that a part of an import binds
abbrev pub import_name : Tree → List Named
import_name tree = specifier_names name_at tree

-- the names of an item, exported or not, that is a `let`, a `const`, a class or an import, and of a function too where `b` says so (13.2.5,
-- 13.2.7)
abbrev pub lexical_names : Bool → Tree → List Named
lexical_names b tree = lexically_declared_names b (λ text ps. name_at) name_at name_at name_at tree

abbrev pub function_names : Tree → List Named
function_names (node FunctionDeclaration text flags from to parts) = first_names parts
function_names (node _ text flags from to parts) = []

-- the parameters' names: all parts but the last, which is the body
abbrev pub parameter_names : Parts → List Named
parameter_names parts = declared.parameter_names name_at parts

-- the parts of a function from its first parameter on
abbrev pub parameters_on : Kind → Parts → Parts
parameters_on ArrowFunctionExpression parts = parts
parameters_on FunctionExpression parts = others parts
parameters_on FunctionDeclaration parts = others parts
parameters_on _ parts = none

abbrev pub items_of : Tree → Parts
items_of (node BlockStatement text flags from to parts) = parts
items_of (node _ text flags from to parts) = none

-- the items of the last part where that is a block
abbrev pub body_items : Parts → Parts
body_items none = none
body_items (part tree none) = items_of tree
body_items (part tree rest) = body_items rest
body_items (gap rest) = body_items rest
