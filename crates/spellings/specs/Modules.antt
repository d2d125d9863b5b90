-- The outlines of imports and exports, and of their names (16.2 of the 13th edition).
use Rattle.std.specs.Prelude.{Bool, true, false, cond, Option, Some, None}
use Rattle.language.specs.declared.Rank.TheVariants.{Assignment, Primary}
use Rattle.language.specs.declared.Start.TheVariants.{Any, Statement}
use Rattle.language.specs.Vocabulary.{is_identifier}
use Rattle.tree.specs.declared.kind.Kind.{Kind}
use Rattle.tree.specs.declared.kind.Kind.TheVariants as kind
use Rattle.tree.specs.declared.kind.Form.{Form}
use Rattle.tree.specs.declared.kind.Form.TheVariants as form
use Rattle.tree.specs.declared.kind.Flags.{Flags}
use Rattle.spellings.specs.declared.parts.PartAt.{PartAt}
use Rattle.spellings.specs.declared.parts.PartAt.TheVariants.{Past, Gap, Part}
use Rattle.spelling_table.specs.declared.position.Position.{Position}
use Rattle.spelling_table.specs.declared.position.Position.TheVariants as at
use Rattle.spelling_table.specs.declared.position.Slot.TheVariants.{Fixed}
use Rattle.spelling_table.specs.declared.outline.FixedSlots.TheVariants.{Zero, One, Two}
use Rattle.spelling_table.specs.declared.outline.ListSlots.TheVariants as tail
use Rattle.spelling_table.specs.declared.outline.Outline.{Outline}
use Rattle.spelling_table.specs.Outlines.{fronted, lined}
use Rattle.spellings.specs.Expressions.{Around, class_outline, function_outline, only_if}

abbrev pub one_part : Position → Option Outline
one_part a = Some (fronted Primary (One (Fixed a)))

abbrev pub two_parts : Position → Position → Option Outline
two_parts a b = Some (fronted Primary (Two (Fixed a) (Fixed b)))

-- a name or a string, of this kind
abbrev pub module_name_at : Kind → Position
module_name_at k = cond (is_identifier k) at.IdentifierName at.DirectiveString

abbrev pub import_outline : Around → Option Outline
import_outline a = only_if a.imports_fit (Some (lined Primary Zero tail.Specifiers 0))

abbrev pub is_exported_kind : Kind → Bool
is_exported_kind kind.FunctionDeclaration = true
is_exported_kind kind.ClassDeclaration = true
is_exported_kind kind.VariableDeclaration = true
is_exported_kind _ = false

-- the export of a declaration, or of names
abbrev pub export_outline : PartAt → PartAt → PartAt → Bool → Option Outline
export_outline (Part k) Gap Past b = only_if (is_exported_kind k) (one_part (at.StatementListItem false))
export_outline Gap y z b = only_if b (Some (lined Primary Zero tail.Specifiers 1))
export_outline _ y z b = None

-- what `export default` exports, of this kind; the flag says whether it begins with `{`
abbrev pub default_at : Kind → Bool → Position
default_at kind.FunctionDeclaration b = at.DefaultItem
default_at kind.ClassDeclaration b = at.DefaultItem
default_at k b = at.Expression Assignment true (cond b Any Statement)

abbrev pub default_outline : PartAt → PartAt → Bool → Option Outline
default_outline (Part k) Past b = one_part (default_at k b)
default_outline _ _ b = None

abbrev pub export_all_outline : PartAt → PartAt → PartAt → Option Outline
export_all_outline Gap (Part s) Past = one_part at.DirectiveString
export_all_outline (Part k) (Part s) Past = two_parts (module_name_at k) at.DirectiveString
export_all_outline _ _ _ = None

abbrev pub module_item_outline : Kind → Around → Option Outline
module_item_outline kind.ImportDeclaration a = import_outline a
module_item_outline kind.ExportNamedDeclaration a = export_outline a.first a.second a.third a.exports_fit
module_item_outline kind.ExportDefaultDeclaration a = default_outline a.first a.second a.braced
module_item_outline kind.ExportAllDeclaration a = export_all_outline a.first a.second a.third
module_item_outline _ a = None

-- one name, or two
abbrev pub sole_outline : PartAt → PartAt → Position → Option Outline
sole_outline (Part k) Past p = one_part p
sole_outline _ _ p = None

abbrev pub imported_outline : Form → PartAt → PartAt → PartAt → Option Outline
imported_outline form.Shorthand (Part k) Past z = one_part at.Name
imported_outline form.Init (Part k) (Part j) Past = two_parts (module_name_at k) at.Name
imported_outline _ _ _ _ = None

abbrev pub exported_outline : Form → PartAt → PartAt → PartAt → Option Outline
exported_outline form.Shorthand (Part k) Past z = one_part (module_name_at k)
exported_outline form.Init (Part k) (Part j) Past = two_parts (module_name_at k) (module_name_at j)
exported_outline _ _ _ _ = None

abbrev pub specifier_outline : Kind → Flags → Around → Option Outline
specifier_outline kind.ImportDefaultSpecifier g a = sole_outline a.first a.second at.Name
specifier_outline kind.ImportNamespaceSpecifier g a = sole_outline a.first a.second at.Name
specifier_outline kind.ImportSpecifier g a = imported_outline g.form a.first a.second a.third
specifier_outline kind.ExportSpecifier g a = exported_outline g.form a.first a.second a.third
specifier_outline _ g a = None

-- a function or class whose name may be missing
abbrev pub default_item_outline : Kind → Flags → Around → Option Outline
default_item_outline kind.FunctionDeclaration g a = function_outline g.form a.first
default_item_outline kind.ClassDeclaration g a = class_outline a.first a.second
default_item_outline _ g a = None
