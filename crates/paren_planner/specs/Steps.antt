-- The steps of a walk over a script, and what the planner's two passes over them make of them.
use Rattle.std.specs.Prelude.{Bool, true, false, cond, List, [], ◌∷◌, ◌++◌, Option, Some, None}
use Rattle.tree.specs.declared.kind.Kind.{Kind}
use Rattle.language.specs.Pieces.{Role, Slot, fixed, lead_chain, lead_pattern}
use Rattle.language.specs.RowPositions.{widest}
use Rattle.spelling_table.specs.declared.position.Position.TheVariants as at
use Rattle.spelling_table.specs.declared.position.Slot.TheVariants.{Fixed}
use Rattle.spelling_table.specs.declared.outline.Outline.{Outline}
use Rattle.language.specs.declared.Rank.{Rank}
use Rattle.spelling_table.specs.declared.outline.FixedSlots.TheVariants.{Zero}
use Rattle.spelling_table.specs.declared.outline.ListSlots.TheVariants.{Nothing}
use Rattle.spelling_table.specs.Outlines.{role_of, slot_of}
use Rattle.cost_table.specs.declared.costs.Costs as own
use Rattle.spelling_table.specs.declared.requirements.Requirements.{Requirements}
use Rattle.paren_planner.specs.declared.steps.NodeStep.{NodeStep}
use Rattle.paren_planner.specs.declared.steps.Step.{Step}
use Rattle.paren_planner.specs.declared.steps.Step.TheVariants.{Free, Passed, Leaf, Enter, Leave}
use Rattle.cost_table.specs.declared.table.Row.{Row}
use Rattle.cost_table.specs.declared.node_costs.NodeCosts.{NodeCosts}
use Rattle.cost_table.specs.Costs.{same_everywhere, sums, no_pairs}
use Rattle.cost_table.specs.Weighed.{settled_at, uses, fitting}
use Rattle.cost_table.specs.Rows.{row_with, is_expression}
use Rattle.cost_table.specs.Packed.{free_shape, shaped}

-- an outline that asks the same
abbrev pub outline_of : Requirements → Outline
outline_of x = record { rank = x.rank; needs_in = x.needs_in; opens = x.opens; front = Zero; tail = Nothing; from = 0 }

-- where a node stands in the spelling of the one above it, whose position is given
abbrev pub stands_at : Role → NodeStep → Role
stands_at a v = settled_at a (slot_of v.slot)

-- with all that its spelling may depend on left open
abbrev pub place_of : NodeStep → Role
place_of v = widest (stands_at (role_of v.above) v)

-- a node at this slot has a row
abbrev pub has_row_at : Slot → Bool
has_row_at (fixed a) = is_expression a
has_row_at lead_chain = false
has_row_at lead_pattern = false
has_row_at s = true

-- a node that can't be spelled, in a place of a part that has none
abbrev pub nowhere : Kind → NodeStep
nowhere k = record { kind = k; above = at.Script; slot = Fixed at.Script; requirements = None }

-- Backwards: the sums

abbrev pub weighed_as : Role → Option Requirements → own.Costs → NodeCosts
weighed_as a None c = record { outline = None; costs = same_everywhere None }
weighed_as a (Some x) c = record { outline = Some (outline_of x); costs = fitting a (outline_of x) c }

-- what a node costs, of the sums over its parts
abbrev pub weighed_of : NodeStep → own.Costs → NodeCosts
weighed_of v c = weighed_as (place_of v) v.requirements c

-- the sums over the parts behind a step, of the innermost open node and of those round it, and the rows behind the step
pub record Sums : Type 0 where
  pub here : own.Costs
  pub outer : List own.Costs
  pub rows : List Row

abbrev pub innermost : List own.Costs → own.Costs
innermost [] = no_pairs
innermost (c ∷ cs) = c

abbrev pub others : {X : Type 0} → List X → List X
others [] = []
others (c ∷ cs) = cs

-- what it costs in the node above it
abbrev pub used : NodeStep → own.Costs → own.Costs
used v c = uses (role_of v.above) (slot_of v.slot) (weighed_of v c)

-- its row, where it has one
abbrev pub row_of_visit : NodeStep → own.Costs → List Row
row_of_visit v c = cond (has_row_at (slot_of v.slot)) (row_with v.kind (weighed_of v c).costs ∷ []) []

-- a node, by the sums over its parts
abbrev pub joined : NodeStep → own.Costs → Sums → Sums
joined v c t = record {
  here = sums t.here (used v c);
  outer = t.outer;
  rows = row_of_visit v c ++ t.rows;
}

-- the row of a node at a symbol that costs nothing: zeros wherever it may stand
abbrev pub free_row : Kind → Rank → Row
free_row k z = row_with k (shaped (free_shape z) 0)

abbrev pub taken : Step → Sums → Sums
taken (Free k z) t = record { here = t.here; outer = t.outer; rows = free_row k z ∷ t.rows }
taken (Passed m) t = t
taken (Leaf v) t = joined v no_pairs t
taken (Enter v) t = joined v t.here (record { here = innermost t.outer; outer = others t.outer; rows = t.rows })
taken Leave t = record { here = no_pairs; outer = t.here ∷ t.outer; rows = t.rows }

-- from behind these steps back to the first of them
unfoldable pub taken_from : List Step → Sums → Sums
taken_from [] t = t
taken_from (x ∷ xs) t = taken x (taken_from xs t)

abbrev pub at_the_end : Sums
at_the_end = record { here = no_pairs; outer = []; rows = [] }
