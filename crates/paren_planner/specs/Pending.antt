-- The sums of open nodes, as the planner keeps them: those that are nothing take no room.
use Rattle.std.specs.Prelude.{Bool, true, false, cond, List, [], ◌∷◌, reverse, All}
use Rattle.cost_table.specs.declared.costs.Costs as own
use Rattle.paren_planner.specs.declared.open_sums.OpenSums.{OpenSums}
use Rattle.cost_table.specs.declared.table.Row.{Row}
use Rattle.paren_planner.specs.Steps.{innermost, others, Sums}
use Rattle.cost_table.specs.Costs.{no_pairs, IsHeld}

-- one for each of these marks, of which each that is true takes the next of those that are kept
abbrev pub stacked : List Bool → List own.Costs → List own.Costs
stacked [] cs = []
stacked (true ∷ bs) cs = innermost cs ∷ stacked bs (others cs)
stacked (false ∷ bs) cs = no_pairs ∷ stacked bs cs

abbrev pub here_of : OpenSums → own.Costs
here_of p = cond p.counts p.here no_pairs

-- the innermost first
abbrev pub outer_of : OpenSums → List own.Costs
outer_of p = stacked (reverse p.outer_counts.items) (reverse p.outer.items)

-- with the rows so far, the first row last
abbrev pub shown_sums : OpenSums → List Row → Sums
shown_sums p rs = record { here = here_of p; outer = outer_of p; rows = reverse rs }

pub record AreHeld (t : Sums) : Type 0 where
  pub here : IsHeld t.here
  pub outer : All IsHeld t.outer
