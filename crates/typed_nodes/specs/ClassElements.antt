-- Elements of classes that are no methods, and private names: which part is which field.
use Rattle.std.specs.Prelude.{ℕ, Bool, List, Option, Some, None, option_map, if◌then◌else◌}
use Rattle.tree.specs.Tree.{Tree, Parts, kind_of, text_of, flags_of, parts_of}
use Rattle.tree.specs.Node.{node_tree, list_parts}
use Rattle.tree.specs.Fields.{field, with_one}
use Rattle.typed_nodes.specs.Arity.{is_whole}
use Rattle.tree.specs.declared.kind.Kind.{Kind}
use Rattle.tree.specs.declared.kind.Kind.TheVariants as kind
use Rattle.typed_nodes.specs.declared.class_elements.PropertyDefinition.{PropertyDefinition}
use Rattle.typed_nodes.specs.declared.class_elements.StaticBlock.{StaticBlock}
use Rattle.typed_nodes.specs.declared.class_elements.PrivateIdentifier.{PrivateIdentifier}

pub data PropertyDefinitionView : Type 0 where
  property_definition : (key : Tree) (value : Option Tree) (computed : Bool) (is_static : Bool) → PropertyDefinitionView

abbrev pub property_definition_by : Kind → Tree → Option PropertyDefinitionView
property_definition_by kind.PropertyDefinition t = with_one (field 0 t) (λ key. property_definition key (field 1 t) (flags_of t).computed (flags_of t).is_static)
property_definition_by _ t = None

abbrev pub property_definition_of : Tree → Option PropertyDefinitionView
property_definition_of t = if is_whole t then property_definition_by (kind_of t) t else None

abbrev pub property_definition_seen : PropertyDefinition → PropertyDefinitionView
property_definition_seen v = property_definition (node_tree v.key) (option_map node_tree v.value) v.computed v.is_static

pub data StaticBlockView : Type 0 where
  static_block : (body : Parts) → StaticBlockView

abbrev pub static_block_by : Kind → Tree → Option StaticBlockView
static_block_by kind.StaticBlock t = Some (static_block (parts_of t))
static_block_by _ t = None

abbrev pub static_block_of : Tree → Option StaticBlockView
static_block_of t = if is_whole t then static_block_by (kind_of t) t else None

abbrev pub static_block_seen : StaticBlock → StaticBlockView
static_block_seen v = static_block (list_parts v.body)

pub data PrivateIdentifierView : Type 0 where
  private_identifier : (name : List ℕ) → PrivateIdentifierView

abbrev pub private_identifier_by : Kind → Tree → Option PrivateIdentifierView
private_identifier_by kind.PrivateIdentifier t = Some (private_identifier (text_of t))
private_identifier_by _ t = None

abbrev pub private_identifier_of : Tree → Option PrivateIdentifierView
private_identifier_of t = if is_whole t then private_identifier_by (kind_of t) t else None

abbrev pub private_identifier_seen : PrivateIdentifier → PrivateIdentifierView
private_identifier_seen v = private_identifier v.name.now
