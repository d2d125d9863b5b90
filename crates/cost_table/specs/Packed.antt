-- Rows in few bytes, and the rows that they stand for.
use Rattle.std.specs.Prelude.{ℕ, ◌+◌, ◌*◌, ◌<◌, cond, List, ◌++◌, reverse, Some, None, get_or}
use Rattle.language.specs.declared.Rank.{Rank}
use Rattle.language.specs.declared.Rank.TheVariants.{Member}
use Rattle.language.specs.Vocabulary.{takes}
use Rattle.spelling_table.specs.Outlines.{leaf}
use Rattle.cost_table.specs.declared.costs.StartCosts.{StartCosts}
use Rattle.cost_table.specs.declared.costs.Costs as own
use Rattle.cost_table.specs.declared.node_costs.NodeCosts.{NodeCosts}
use Rattle.cost_table.specs.declared.packed_row.FilledStarts.{FilledStarts}
use Rattle.cost_table.specs.declared.packed_row.FilledStarts.TheVariants.{Each, NotStatement, OnlyAny, Nowhere}
use Rattle.cost_table.specs.declared.packed_row.CellShape.{CellShape}
use Rattle.cost_table.specs.declared.packed_row.Place.{Place}
use Rattle.cost_table.specs.declared.packed_row.PackedRow.{PackedRow}
use Rattle.cost_table.specs.declared.packed_row.PackedRow.TheVariants.{Same, Apart}
use Rattle.cost_table.specs.declared.table.Row.{Row}
use Rattle.cost_table.specs.Costs.{same_everywhere}
use Rattle.cost_table.specs.Rows.{row_with}

-- the number at these starts, none at the others
abbrev pub filled : FilledStarts → ℕ → StartCosts
filled Each m = record { any = Some m; no_brace = Some m; statement = Some m }
filled NotStatement m = record { any = Some m; no_brace = Some m; statement = None }
filled OnlyAny m = record { any = Some m; no_brace = None; statement = None }
filled Nowhere m = record { any = None; no_brace = None; statement = None }

-- the number in this shape
abbrev pub shaped : CellShape → ℕ → own.Costs
shaped s m = record { has_in = filled s.has_in m; without_in = filled s.without_in m; at_member = filled s.at_member m }

-- of a node at this symbol that costs nothing wherever it may stand
abbrev pub free_shape : Rank → CellShape
free_shape z = record { has_in = Each; without_in = Each; at_member = cond (takes Member z) Each Nowhere }

abbrev pub free_node : Rank → NodeCosts
free_node z = record { outline = Some (leaf z); costs = shaped (free_shape z) 0 }

-- the place that two halves of 32 bits say
abbrev pub index_of : Place → ℕ
index_of p = p.high * 4294967296 + p.low

-- the row of a packed one, by the numbers that stand apart
abbrev pub unpacked : List own.Costs → PackedRow → Row
unpacked apart (Same k s m) = row_with k (shaped s m)
unpacked apart (Apart k p) = row_with k (get_or apart (index_of p) (same_everywhere None))

-- what it says of numbers apart is there
abbrev pub IsPacked : ℕ → PackedRow → Type 0
IsPacked count (Same k s m) = Unit {0}
IsPacked count (Apart k p) = index_of p < count

-- the first rows stand the other way round
abbrev pub in_order : List PackedRow → List PackedRow → List PackedRow
in_order turned ps = reverse turned ++ ps

-- the rows of a table, in their order
pub record RowList : Type 0 where
  pub items : List Row
