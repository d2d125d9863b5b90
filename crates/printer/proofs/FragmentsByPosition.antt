-- What stands round the parts of a node, by its position.
use Rattle.std.specs.Prelude.{ℕ, Bool, true, false, ◌&&◌, List, [], ◌∷◌}
use Rattle.tree.specs.declared.kind.Kind.{Kind}
use Rattle.tree.specs.declared.kind.Kind.TheVariants as kind
use Rattle.tree.specs.declared.kind.Flags.{Flags}
use Rattle.tree.specs.Tree.{Parts}
use Rattle.language.specs.Pieces.{is_none}
use Rattle.spelling_table.specs.declared.position.Position.{Position}
use Rattle.spelling_table.specs.declared.position.Position.TheVariants as at
use Rattle.printer.specs.Bits.{chunk, Shape, fronted}
use Rattle.printer.specs.Shapes.{shape_by_kind, method_shape, head_shape}

-- at a position
abbrev pub shape_by : Position → Kind → List ℕ → Flags → Parts → Shape
shape_by at.ShorthandKey k w g ps = fronted [] []
shape_by (at.TemplateElement a b) k w g ps = fronted [] (chunk a b ∷ [])
shape_by (at.Method x) k w g ps = method_shape
shape_by (at.ForDeclaration b) k w g ps = head_shape
shape_by _ k w g ps = shape_by_kind k w g ps

-- positions at which the shape is told by the node alone
abbrev pub is_plain_at : Position → Bool
is_plain_at at.ShorthandKey = false
is_plain_at (at.TemplateElement a b) = false
is_plain_at (at.Method x) = false
is_plain_at (at.ForDeclaration b) = false
is_plain_at _ = true

-- a name or a literal without parts, which is written as its own text
abbrev pub is_word_at : Position → Kind → Parts → Bool
is_word_at p kind.Identifier ps = is_none ps && is_plain_at p
is_word_at p kind.Literal ps = is_none ps && is_plain_at p
is_word_at p _ ps = false
