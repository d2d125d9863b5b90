-- What was read where an expression may stand, by its node.
use Rattle.std.specs.Prelude.{ℕ, Bool, true, false, not, ◌&&◌}
use Rattle.language.specs.declared.Rank.{Rank}
use Rattle.language.specs.declared.Rank.TheVariants.{Primary, Grouped}
use Rattle.language.specs.declared.Edge.{Edge}
use Rattle.language.specs.declared.Edge.TheVariants.{Other}
use Rattle.tree.specs.Tree.{Tree, kind_of, text_of, start_of}
use Rattle.covers.specs.declared.shape.CoverShape.{CoverShape}
use Rattle.covers.specs.Shapes.{shape_of}
use Rattle.language.specs.Statements.{is_string_literal}
use Rattle.parser_tables.specs.declared.operand.Operand.{Operand}

-- with this shape and from this place on, at a symbol, with a right edge
abbrev pub part_from : Tree → CoverShape → ℕ → Rank → Edge → Operand
part_from n s at y x = record { cover = record { node = n; shape = s }; start = at; rank = y; edge = x }

-- an expression that is no array, no object and no assignment
abbrev pub plain_part : Tree → Rank → Edge → Operand
plain_part n y x = part_from n (shape_of n) (start_of n) y x

-- what stands at Primary
abbrev pub primary_part : Tree → CoverShape → Operand
primary_part n s = part_from n s (start_of n) Primary Other

-- what parentheses from this place on group
abbrev pub group_part : Tree → CoverShape → ℕ → Operand
group_part n s at = part_from n s at Grouped Other

abbrev pub is_group : Rank → Bool
is_group Grouped = true
is_group _ = false

-- one string token, without parentheses
abbrev pub is_lone_string : Operand → Bool
is_lone_string p = is_string_literal (kind_of p.cover.node) (text_of p.cover.node) && not (is_group p.rank)
