-- The names that a module imports and exports (ECMA-262, 13th edition, 16.2).
use Rattle.std.specs.Prelude.{ℕ, Bool, true, false, not, cond, ◌&&◌, ◌||◌, List, [], ◌∷◌, ◌++◌, filter, map, codes, nat_le}
use Rattle.tree.specs.declared.kind.Kind.TheVariants.{Program, ImportSpecifier, ExportNamedDeclaration, ExportSpecifier, ExportDefaultDeclaration, ExportAllDeclaration, VariableDeclaration, MetaProperty}
use Rattle.tree.specs.Tree.{Tree, node, Parts, none, part, gap, kind_of, text_of, start_of, parts_of}
use Rattle.language.specs.Vocabulary.{is, is_reserved, is_keyword, is_identifier}
use Rattle.language.specs.Statements.{is_string_literal}
use Rattle.language.specs.Strings.{literal_units}
use Rattle.name_tables.specs.BoundNames.{each_part}
use Rattle.early_errors.specs.Classes.{has_key}
use Rattle.early_errors.specs.Around.{Around}
use Rattle.early_errors.specs.Names.{Named, places, when, has_name, twice, first_names, declared_names, parts_vars, lexical_names}

-- the value of a name or string of an import or export, and its place
abbrev pub name_units : Tree → List ℕ
name_units tree = cond (is_string_literal (kind_of tree) (text_of tree)) (literal_units (text_of tree)) (literal_units (codes "'" ++ text_of tree ++ codes "'"))

abbrev pub module_name_at : Tree → Named
module_name_at tree = (name_units tree, start_of tree)

abbrev pub last_part : Parts → List Tree
last_part none = []
last_part (part tree none) = tree ∷ []
last_part (part tree rest) = last_part rest
last_part (gap rest) = last_part rest

abbrev pub each_tree : (Tree → List Named) → List Tree → List Named
each_tree f [] = []
each_tree f (x ∷ xs) = f x ++ each_tree f xs

-- the exported name of a specifier: that of its last part
abbrev pub specifier_name : Tree → List Named
specifier_name (node ExportSpecifier text flags from to parts) = each_tree (λ x. module_name_at x ∷ []) (last_part parts)
specifier_name (node _ text flags from to parts) = []

abbrev pub in_units : Named → Named
in_units x = (literal_units (codes "'" ++ x.0 ++ codes "'"), x.1)

-- the names that a declaration gives an export
abbrev pub declaration_exports : Tree → List Named
declaration_exports (node VariableDeclaration text flags from to parts) = map in_units (declared_names parts)
declaration_exports (node _ text flags from to parts) = map in_units (first_names parts)

-- ExportedNames (16.2.3.4)
abbrev pub exported_names : Tree → List Named
exported_names (node ExportNamedDeclaration text flags from to (part d ps)) = declaration_exports d
exported_names (node ExportNamedDeclaration text flags from to (gap ps)) = each_part specifier_name ps
exported_names (node ExportDefaultDeclaration text flags from to parts) = (codes "default", from) ∷ []
exported_names (node ExportAllDeclaration text flags from to (part n ps)) = module_name_at n ∷ []
exported_names (node _ text flags from to parts) = []

-- A name that is exported twice (16.2.1.1): the second and later.
unfoldable pub duplicate_export : Tree → List ℕ
duplicate_export (node Program text flags from to parts) = places (twice (each_part exported_names parts))
duplicate_export (node _ text flags from to parts) = []

-- the locals of `export {..}` without `from` (ReferencedBindings): the first parts of its specifiers
abbrev pub no_source : Parts → Bool
no_source none = false
no_source (gap none) = true
no_source (gap ps) = no_source ps
no_source (part tree ps) = no_source ps

abbrev pub first_tree : Tree → List Tree
first_tree tree = of_parts (parts_of tree)
  where
    of_parts : Parts → List Tree
    of_parts (part n ps) = n ∷ []
    of_parts _ = []

abbrev pub locals : Tree → List Tree
locals (node ExportNamedDeclaration text flags from to (gap ps)) = cond (no_source ps) (each_part first_tree ps) []
locals (node _ text flags from to parts) = []

abbrev pub is_no_name : Tree → Bool
is_no_name tree = not (is_identifier (kind_of tree)) || is_reserved (text_of tree) || is_keyword (text_of tree)

abbrev pub starts_of : List Tree → List ℕ
starts_of [] = []
starts_of (x ∷ xs) = start_of x ∷ starts_of xs

-- A local that is a string or a reserved word (16.2.3.1): the local.
unfoldable pub export_of_no_name : Tree → List ℕ
export_of_no_name (node ExportNamedDeclaration text flags from to parts) = starts_of (filter is_no_name (locals (node ExportNamedDeclaration text flags from to parts)))
export_of_no_name (node _ text flags from to parts) = []

-- A local that the module doesn't declare (16.2.1.1): the local.
unfoldable pub undeclared_export : Tree → List ℕ
undeclared_export (node Program text flags from to parts) =
    starts_of (filter (λ x. not (is_no_name x || has_name (text_of x) (each_part (lexical_names true) parts ++ parts_vars parts))) (each_part locals parts))
undeclared_export (node _ text flags from to parts) = []

abbrev pub is_high : ℕ → Bool
is_high c = nat_le 0xD800 c && nat_le c 0xDBFF

abbrev pub is_low : ℕ → Bool
is_low c = nat_le 0xDC00 c && nat_le c 0xDFFF

-- no half of a surrogate pair without the other
abbrev pub is_well_formed : List ℕ → Bool
is_well_formed [] = true
is_well_formed (c ∷ []) = not (is_high c || is_low c)
is_well_formed (c ∷ d ∷ cs) = cond (is_high c) (is_low d && is_well_formed cs) (not (is_low c) && is_well_formed (d ∷ cs))

abbrev pub string_of : Tree → Bool
string_of tree = is_string_literal (kind_of tree) (text_of tree) && not (is_well_formed (literal_units (text_of tree)))

abbrev pub lone_parts : Parts → List ℕ
lone_parts none = []
lone_parts (part n ps) = when (string_of n) (start_of n ∷ []) ++ lone_parts ps
lone_parts (gap ps) = lone_parts ps

abbrev pub first_only : Parts → Parts
first_only (part n ps) = part n none
first_only _ = none

-- A string that names an import or export and has a lone surrogate (16.2.2): the string.
unfoldable pub lone_surrogate : Tree → List ℕ
lone_surrogate (node ImportSpecifier text flags from to parts) = lone_parts parts
lone_surrogate (node ExportSpecifier text flags from to parts) = lone_parts parts
lone_surrogate (node ExportAllDeclaration text flags from to parts) = lone_parts (first_only parts)
lone_surrogate (node _ text flags from to parts) = []

-- `import.meta` outside a module (13.3.12.1): its start.
unfoldable pub import_meta_outside_module : Around → Tree → List ℕ
import_meta_outside_module z (node MetaProperty text flags from to parts) = when (has_key parts (λ n. is (text_of n) "import") && not z.in_module) (from ∷ [])
import_meta_outside_module z (node _ text flags from to parts) = []
