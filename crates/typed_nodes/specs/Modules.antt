-- Imports and exports: which part is which field.
use Rattle.std.specs.Prelude.{ℕ, Option, Some, None, option_map, if◌then◌else◌}
use Rattle.tree.specs.Tree.{Tree, Parts, kind_of, parts_of}
use Rattle.tree.specs.Node.{node_tree, list_parts}
use Rattle.tree.specs.Fields.{field, list_from, last_part, before_last, with_one}
use Rattle.typed_nodes.specs.Arity.{is_whole}
use Rattle.tree.specs.declared.kind.Kind.{Kind}
use Rattle.tree.specs.declared.kind.Kind.TheVariants as kind
use Rattle.typed_nodes.specs.declared.module.ModuleItem.{ModuleItem}
use Rattle.typed_nodes.specs.declared.module.ModuleItem.TheVariants as m
use Rattle.typed_nodes.specs.declared.module.Specifier.{Specifier}
use Rattle.typed_nodes.specs.declared.module.Specifier.TheVariants as s

pub data ModuleItemView : Type 0 where
  import_declaration : (specifiers : Parts) (source : Tree) → ModuleItemView
  export_named : (declaration : Option Tree) (specifiers : Parts) (source : Option Tree) → ModuleItemView
  export_default : (declaration : Tree) → ModuleItemView
  export_all : (exported : Option Tree) (source : Tree) → ModuleItemView

abbrev pub module_item_by : Kind → Tree → Option ModuleItemView
module_item_by kind.ImportDeclaration t = with_one (last_part (parts_of t)) (import_declaration (before_last (parts_of t)))
module_item_by kind.ExportNamedDeclaration t = Some (export_named (field 0 t) (before_last (list_from 1 t)) (last_part (list_from 1 t)))
module_item_by kind.ExportDefaultDeclaration t = with_one (field 0 t) export_default
module_item_by kind.ExportAllDeclaration t = with_one (field 1 t) (export_all (field 0 t))
module_item_by _ t = None

-- the tree as an import or an export
abbrev pub module_item_of : Tree → Option ModuleItemView
module_item_of t = if is_whole t then module_item_by (kind_of t) t else None

pub data SpecifierView : Type 0 where
  import_specifier : (imported local : Tree) → SpecifierView
  import_default : (local : Tree) → SpecifierView
  import_namespace : (local : Tree) → SpecifierView
  export_specifier : (local exported : Tree) → SpecifierView

-- the second part, or the first where one name stands for both
abbrev pub second_or : Option Tree → Tree → Tree
second_or None first = first
second_or (Some second) first = second

abbrev pub specifier_by : Kind → Tree → Option SpecifierView
specifier_by kind.ImportSpecifier t = with_one (field 0 t) (λ first. import_specifier first (second_or (field 1 t) first))
specifier_by kind.ImportDefaultSpecifier t = with_one (field 0 t) import_default
specifier_by kind.ImportNamespaceSpecifier t = with_one (field 0 t) import_namespace
specifier_by kind.ExportSpecifier t = with_one (field 0 t) (λ first. export_specifier first (second_or (field 1 t) first))
specifier_by _ t = None

-- the tree as a specifier
abbrev pub specifier_of : Tree → Option SpecifierView
specifier_of t = if is_whole t then specifier_by (kind_of t) t else None

-- what a view shows
abbrev pub module_item_seen : ModuleItem → ModuleItemView
module_item_seen (m.Import specifiers source) = import_declaration (list_parts specifiers) (node_tree source)
module_item_seen (m.ExportNamed declaration specifiers source) = export_named (option_map node_tree declaration) (list_parts specifiers) (option_map node_tree source)
module_item_seen (m.ExportDefault declaration) = export_default (node_tree declaration)
module_item_seen (m.ExportAll exported source) = export_all (option_map node_tree exported) (node_tree source)

abbrev pub specifier_seen : Specifier → SpecifierView
specifier_seen (s.Import imported local) = import_specifier (node_tree imported) (node_tree local)
specifier_seen (s.ImportDefault local) = import_default (node_tree local)
specifier_seen (s.ImportNamespace local) = import_namespace (node_tree local)
specifier_seen (s.Export local exported) = export_specifier (node_tree local) (node_tree exported)
