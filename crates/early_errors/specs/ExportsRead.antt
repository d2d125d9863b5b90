-- What the program's own calls say of imports and exports on the way.
use Rattle.std.specs.Prelude.{ℕ, zero, suc, Bool, true, false, not, cond, ◌||◌, List, [], ◌∷◌, ◌++◌, map, filter, codes, Option, Some, None, is_some}
use Rattle.tree.specs.declared.kind.Kind.{Kind}
use Rattle.tree.specs.declared.kind.Kind.TheVariants.{VariableDeclaration, ExportNamedDeclaration, ExportDefaultDeclaration, ExportAllDeclaration}
use Rattle.tree.specs.Tree.{Tree, node, Parts, none, part, gap, kind_of, text_of, parts_of, part_at}
use Rattle.language.specs.Strings.{literal_units}
use Rattle.name_tables.specs.PatternParts.{at_part}
use Rattle.early_errors.specs.declared.exported_names.ExportedName.{ExportedName}
use Rattle.early_errors.specs.Modules.{is_no_name, is_well_formed, module_name_at, no_source, starts_of}
use Rattle.early_errors.specs.Names.{Named, declared_names, first_names}

-- a name as it was pushed
abbrev pub exported_shown : ExportedName → Named
exported_shown x = (x.units.items, x.start)

abbrev pub all_exported : List ExportedName → List Named
all_exported xs = map exported_shown xs

-- the names that a declaration declares
abbrev pub own_names : Tree → List Named
own_names (node VariableDeclaration text flags from to parts) = declared_names parts
own_names (node _ text flags from to parts) = first_names parts

-- the units of a name, as of the string that has it between quotes
abbrev pub units_of_name : List ℕ → List ℕ
units_of_name text = literal_units (codes "'" ++ (text ++ codes "'"))

-- a name or string that may be missing
abbrev pub module_names_at : Option Tree → List Named
module_names_at o = at_part (λ t. module_name_at t ∷ []) o

abbrev pub is_named_export : Kind → Bool
is_named_export ExportNamedDeclaration = true
is_named_export _ = false

-- the export of a tree's own names, without declaration and source
abbrev pub own_export : Parts → Bool
own_export (gap ps) = no_source ps
own_export _ = false

abbrev pub exports_own : Tree → Bool
exports_own (node ExportNamedDeclaration text flags from to parts) = own_export parts
exports_own (node _ text flags from to parts) = false

abbrev pub first_at : Option Tree → Option Tree
first_at None = None
first_at (Some t) = part_at (parts_of t) 0

abbrev pub is_export_kind : Kind → Bool
is_export_kind ExportNamedDeclaration = true
is_export_kind ExportDefaultDeclaration = true
is_export_kind ExportAllDeclaration = true
is_export_kind _ = false

abbrev pub is_export_at : Option Tree → Bool
is_export_at None = false
is_export_at (Some t) = is_export_kind (kind_of t)

-- so many of the first parts
abbrev pub first_parts : ℕ → Parts → Parts
first_parts zero ps = none
first_parts (suc n) none = none
first_parts (suc n) (part t ps) = part t (first_parts n ps)
first_parts (suc n) (gap ps) = gap (first_parts n ps)

-- the locals that nothing declares
abbrev pub undeclared : (List ℕ → Option (Unit {0})) → List Tree → List ℕ
undeclared f xs = starts_of (filter (λ x. not (is_no_name x || is_some (f (text_of x)))) xs)

-- whether the units are well-formed where a low half has to come, or may not
abbrev pub goes_on_well : Bool → List ℕ → Bool
goes_on_well awaits_low [] = not awaits_low
goes_on_well awaits_low (c ∷ cs) = goes_on_units awaits_low c cs
  where
    goes_on_units : Bool → ℕ → List ℕ → Bool
    goes_on_units b c cs = cond b (is_well_formed (0xD800 ∷ c ∷ cs)) (is_well_formed (c ∷ cs))
