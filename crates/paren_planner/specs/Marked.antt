-- Forwards over the steps of a walk: which nodes are wrapped.
use Rattle.std.specs.Prelude.{Bool, true, false, not, cond, ◌&&◌, List, [], ◌∷◌, ◌++◌, drop, map, reverse, Option, Some, None}
use Rattle.language.specs.Pieces.{Role, script}
use Rattle.language.specs.Layout.{exceeds, inside}
use Rattle.spelling_table.specs.Outlines.{role_of, slot_of}
use Rattle.spelling_table.specs.Requirements.{fits_outline}
use Rattle.cost_table.specs.declared.costs.Costs.{Costs}
use Rattle.spelling_table.specs.declared.requirements.Requirements.{Requirements}
use Rattle.paren_planner.specs.declared.steps.NodeStep.{NodeStep}
use Rattle.paren_planner.specs.declared.steps.Step.{Step}
use Rattle.paren_planner.specs.declared.steps.Step.TheVariants.{Free, Passed, Leaf, Enter, Leave}
use Rattle.cost_table.specs.declared.table.Row.{Row}
use Rattle.paren_planner.specs.declared.wrap_pass.WrapContext.{WrapContext}
use Rattle.paren_planner.specs.declared.wrap_pass.RowFlags.{RowFlags}
use Rattle.cost_table.specs.Costs.{capped_sum, is_free}
use Rattle.cost_table.specs.Weighed.{cost_of}
use Rattle.paren_planner.specs.Steps.{outline_of, stands_at, has_row_at, others}
use Rattle.paren_planner.specs.Wrapped.{unwrapped}

-- where the steps stand: the position of the innermost open node, as it is with its pair or without, and whether a node in it may be wrapped
pub record Round : Type 0 where
  pub own : Role
  pub may_wrap : Bool

abbrev pub round : WrapContext → Round
round x = record { own = role_of x.own; may_wrap = x.may_wrap }

-- what is left to mark: the innermost node, the open ones round it, the rows of the table from the next on, and the flags so far
pub record Marks : Type 0 where
  pub here : Round
  pub outer : List Round
  pub rows : List Row
  pub flags : List Bool

abbrev pub meets : Role → Option Requirements → Bool
meets a None = false
meets a (Some x) = fits_outline a (outline_of x)

-- a node of these costs wants a pair round it
abbrev pub wants : Role → Option Requirements → Costs → Bool
wants a l c = exceeds (cond (meets a l) (cost_of c a) None) (capped_sum (Some 1) c.has_in.any)

-- what stands around the parts of a node: where it costs nothing none of them is wrapped
abbrev pub around_parts : Role → Option Requirements → Costs → Round
around_parts a l c = record { own = a; may_wrap = meets a l && not (is_free (cost_of c a)) }

abbrev pub flag_at : Option Row → Role → Option Requirements → Bool
flag_at None a l = false
flag_at (Some r) a l = wants a l r.costs

abbrev pub round_at : Option Row → Role → Option Requirements → Round
round_at None a l = record { own = a; may_wrap = false }
round_at (Some r) a l = around_parts (inside (wants a l r.costs) a) l r.costs

abbrev pub plain_round : Role → Option Requirements → Round
plain_round a l = record { own = a; may_wrap = meets a l }

abbrev pub first_row : List Row → Option Row
first_row [] = None
first_row (r ∷ R) = Some r

-- the flag of a node, where it has a row
abbrev pub flag_of : NodeStep → Round → Option Row → List Bool
flag_of v x r = cond (has_row_at (slot_of v.slot)) (cond x.may_wrap (flag_at r (stands_at x.own v) v.requirements) false ∷ []) []

abbrev pub round_of : NodeStep → Round → Option Row → Round
round_of v x r = cond x.may_wrap (cond (has_row_at (slot_of v.slot)) (round_at r (stands_at x.own v) v.requirements) (plain_round (stands_at x.own v) v.requirements)) x

abbrev pub rows_after : NodeStep → List Row → List Row
rows_after v R = cond (has_row_at (slot_of v.slot)) (others R) R

abbrev pub innermost_round : List Round → Round → Round
innermost_round [] x = x
innermost_round (y ∷ ys) x = y

-- the table has no rows of a node that is passed
abbrev pub marked : Step → Marks → Marks
marked (Free k z) t = record { here = t.here; outer = t.outer; rows = others t.rows; flags = t.flags ++ false ∷ [] }
marked (Passed m) t = record { here = t.here; outer = t.outer; rows = t.rows; flags = t.flags ++ unwrapped m }
marked (Leaf v) t = record { here = t.here; outer = t.outer; rows = rows_after v t.rows; flags = t.flags ++ flag_of v t.here (first_row t.rows) }
marked (Enter v) t = record { here = round_of v t.here (first_row t.rows); outer = t.here ∷ t.outer; rows = rows_after v t.rows; flags = t.flags ++ flag_of v t.here (first_row t.rows) }
marked Leave t = record { here = innermost_round t.outer t.here; outer = others t.outer; rows = t.rows; flags = t.flags }

unfoldable pub marked_through : List Step → Marks → Marks
marked_through [] t = t
marked_through (x ∷ xs) t = marked_through xs (marked x t)

abbrev pub at_the_start : List Row → Marks
at_the_start R = record { here = record { own = script; may_wrap = true }; outer = []; rows = R; flags = [] }

-- what is left to mark as vectors have it, the innermost node last
abbrev pub shown_marks : List Row → WrapContext → List WrapContext → RowFlags → Marks
shown_marks T x xs w = record { here = round x; outer = reverse (map round xs); rows = drop w.next_row T; flags = w.wraps.flags.items }
