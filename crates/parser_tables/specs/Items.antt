-- Lists and their items, from what was read.
use Rattle.std.specs.Prelude.{ℕ, Bool, true, false, not, ◌&&◌, ◌||◌, if◌then◌else◌, []}
use Rattle.language.specs.declared.Edge.{Edge}
use Rattle.language.specs.declared.Edge.TheVariants.{Closed}
use Rattle.tree.specs.declared.kind.Kind.{Kind}
use Rattle.tree.specs.declared.kind.Kind.TheVariants.{ArrayExpression, ObjectExpression, TemplateLiteral, SpreadElement, SequenceExpression}
use Rattle.tree.specs.Tree.{Tree, node, Parts, part, gap, none, plain, push, part_count, height}
use Rattle.covers.specs.declared.shape.CoverShape.{CoverShape}
use Rattle.covers.specs.declared.list.ListKind.{ListKind}
use Rattle.covers.specs.declared.list.ListKind.TheVariants.{Cases, Elements, Members, Properties, Template}
use Rattle.covers.specs.declared.list.ListItem.{ListItem}
use Rattle.covers.specs.declared.list.ListBuilder.{ListBuilder as ListOf}
use Rattle.covers.specs.Lists.{is_ended, nothing_seen, seen_with, separated}
use Rattle.covers.specs.Shapes.{grouped, value}
use Rattle.parser_tables.specs.declared.operand.Operand.{Operand}
use Rattle.parser_tables.specs.Operands.{primary_part, group_part}

-- an item that isn't marked, behind `...` or not
abbrev pub item_from : Tree → CoverShape → Bool → Edge → ListItem
item_from n s spreads x = record { node = n; shape = s; spreads = spreads; is_flagged = false; edge = x }

-- the property of an object, of this shape
abbrev pub property_item : Tree → CoverShape → ListItem
property_item n s = item_from n s false Closed

-- `...` and what was read behind it, from one place to another; or what was read alone
abbrev pub element_node : Bool → ℕ → ℕ → Tree → Tree
element_node true s e n = node SpreadElement [] plain s e (part n none)
element_node false s e n = n

-- how high the node is that is made for it
abbrev pub element_levels : Bool → Tree → ℕ
element_levels true n = height (element_node true 0 0 n)
element_levels false n = 0

abbrev pub element_item : Bool → ℕ → ℕ → Operand → ListItem
element_item spreads s e p = item_from (element_node spreads s e p.cover.node) p.cover.shape spreads p.edge

-- nothing stands between the items
abbrev pub is_unseparated : ListKind → Bool
is_unseparated Members = true
is_unseparated (Cases returns) = true
is_unseparated Template = true
is_unseparated _ = false

-- a list without items, from a place on
abbrev pub list_from : ListKind → ℕ → ListOf
list_from l at = record { listed = l; nodes = none; seen = nothing_seen; inside = record { start = at; end = at }; span = record { start = at; end = at } }

-- with one more item
abbrev pub with_item : ListOf → ListItem → ListOf
with_item l i = record l { nodes = push l.nodes i.node; seen = seen_with l.seen i l.listed }

-- behind the last item: lists with nothing between their items, and those that are ended, stay as they are; another has a comma there or none
abbrev pub after_item : ListOf → Bool → ListOf
after_item l has_comma = if is_ended l.listed l.seen (part_count l.nodes) || is_unseparated l.listed then l else record l { seen = separated l.seen has_comma }

-- the kind of what is listed, where an expression is
abbrev pub listed_kind : ListKind → Kind
listed_kind Elements = ArrayExpression
listed_kind Properties = ObjectExpression
listed_kind _ = TemplateLiteral

-- a template is no pattern
abbrev pub listed_shape : ListKind → CoverShape → CoverShape
listed_shape Template s = value
listed_shape _ s = s

-- the array, the object or the template
abbrev pub listed_node : ListOf → Tree
listed_node l = node (listed_kind l.listed) [] plain l.span.start l.span.end l.nodes

abbrev pub listed_part : ListOf → Operand
listed_part l = primary_part (listed_node l) (listed_shape l.listed l.seen.shape)

-- what parentheses group: one expression, or a sequence, from its first part to its last
abbrev pub group_node : Parts → ℕ → ℕ → Tree
group_node (part n none) s e = n
group_node ps s e = node SequenceExpression [] plain s e ps

abbrev pub group_shape : Parts → CoverShape → CoverShape
group_shape (part n none) s = grouped s
group_shape ps s = value

-- how high the node is that is made for them
abbrev pub group_levels : Parts → ℕ
group_levels (part n none) = 0
group_levels ps = height (group_node ps 0 0)

-- some are there, and no hole alone
abbrev pub are_some : Parts → Bool
are_some none = false
are_some (gap none) = false
are_some ps = true

-- what stands between parentheses is an expression, or several with commas between them
abbrev pub is_grouped : ListOf → Bool
is_grouped l = are_some l.nodes && (not l.seen.has_comma && l.seen.shape.is_expression)

abbrev pub list_group : ListOf → Operand
list_group l = group_part (group_node l.nodes l.inside.start l.inside.end) (group_shape l.nodes l.seen.last) l.span.start
