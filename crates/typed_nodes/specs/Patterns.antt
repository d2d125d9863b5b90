-- Patterns and targets: which part is which field.
use Rattle.std.specs.Prelude.{ℕ, Bool, List, Option, Some, None, if◌then◌else◌}
use Rattle.tree.specs.Tree.{Tree, Parts, kind_of, text_of, flags_of, parts_of}
use Rattle.tree.specs.Node.{node_tree, list_parts}
use Rattle.tree.specs.Fields.{field, with_one, with_two}
use Rattle.typed_nodes.specs.Arity.{is_whole}
use Rattle.tree.specs.declared.kind.Kind.{Kind}
use Rattle.tree.specs.declared.kind.Kind.TheVariants as kind
use Rattle.typed_nodes.specs.declared.pattern.Pattern.{Pattern}
use Rattle.typed_nodes.specs.declared.pattern.Pattern.TheVariants as p

pub data PatternView : Type 0 where
  named : (name : List ℕ) → PatternView
  member_target : (object property : Tree) (computed : Bool) → PatternView
  array_pattern : (elements : Parts) → PatternView
  object_pattern : (properties : Parts) → PatternView
  assignment_pattern : (left right : Tree) → PatternView
  rest_element : (argument : Tree) → PatternView

abbrev pub pattern_by : Kind → Tree → Option PatternView
pattern_by kind.Identifier t = Some (named (text_of t))
pattern_by kind.MemberExpression t = with_two (field 0 t) (field 1 t) (λ object property. member_target object property (flags_of t).computed)
pattern_by kind.ArrayPattern t = Some (array_pattern (parts_of t))
pattern_by kind.ObjectPattern t = Some (object_pattern (parts_of t))
pattern_by kind.AssignmentPattern t = with_two (field 0 t) (field 1 t) assignment_pattern
pattern_by kind.RestElement t = with_one (field 0 t) rest_element
pattern_by _ t = None

-- the tree as a pattern
abbrev pub pattern_of : Tree → Option PatternView
pattern_of t = if is_whole t then pattern_by (kind_of t) t else None

-- what a view shows
abbrev pub pattern_seen : Pattern → PatternView
pattern_seen (p.Identifier name) = named name.now
pattern_seen (p.Member object property computed) = member_target (node_tree object) (node_tree property) computed
pattern_seen (p.Array elements) = array_pattern (list_parts elements)
pattern_seen (p.Object properties) = object_pattern (list_parts properties)
pattern_seen (p.Assignment left right) = assignment_pattern (node_tree left) (node_tree right)
pattern_seen (p.Rest argument) = rest_element (node_tree argument)
