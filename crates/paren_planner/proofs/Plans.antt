-- What a plan says, from its rows and its total.
use Rattle.std.proofs.Common.{◌≡◌, ◌∙◌, ℕ, ◌≤◌, Bool, List, Option, Some, None, ap, subst, sym, refl, length}
use Rattle.std.specs.Prelude.{◌↔◌, IsSome, IsTrue, map}
use Rattle.tree.specs.Tree.{Tree}
use Rattle.language.specs.Pieces.{script}
use Rattle.language.specs.Cost.{least}
use Rattle.language.specs.Layout.{has_number, wrapped_rows}
use Rattle.language.specs.RowPositions.{rows}
use Rattle.paren_planner.specs.declared.wrap_plan.Plan.{Plan}
use Rattle.cost_table.specs.declared.table.Row.{Row}
use Rattle.cost_table.specs.Costs.{capped}
use Rattle.cost_table.specs.Rows.{table_rows, shown}
use Rattle.wrap_flags.specs.Flags.{is_flagged}
use Rattle.paren_planner.specs.Plans.{HasPlan, IsPlan}
use Rattle.paren_planner.proofs.Bounds.{below_more, least_below, capped_below}
use Rattle.paren_planner.proofs.Turns.{total_is, table-length}
use Rattle.paren_planner.proofs.Totals.{wrapped_count}
use Rattle.paren_planner.proofs.CellRows.{script_shown}
use Rattle.paren_planner.proofs.CellBounds.{plan_bounds}
use Rattle.paren_planner.proofs.ExactPlans.{exact_cells}

capped_some : (x : Option ℕ) → IsSome (capped x) → IsSome x
unfolding capped
capped_some None h = h
capped_some (Some m) h = refl

some_capped : (x : Option ℕ) → IsSome x → IsSome (capped x)
unfolding capped
some_capped None h = h
some_capped (Some m) h = refl

-- a script of few rows has its total
pub total_of : (n : Tree) (o : Option ℕ) (t : ℕ) → o ≡ capped (least n script) → IsSome (least n script) → rows n script ≤ 16777216 → ((s : ℕ) → o ≡ Some s → t ≡ s) → Some t ≡ least n script
total_of n o t e h few k = total_is o (least n script) t h (e ∙ capped_below (below_more (least_below n script) few)) k

-- what the test says of rows and total, the script has
pub plannable : (n : Tree) (b : Bool) (o : Option ℕ) (T : List Row) (k : ℕ) → (IsTrue b ↔ (IsSome o × (k ≤ 16777216))) → o ≡ capped (least n script) → k ≡ length T → T ≡ table_rows n script → IsTrue b ↔ HasPlan n
plannable n b o T k h e q rows_are =
    let counted : k ≡ rows n script = q ∙ ap length rows_are ∙ table-length n script in (
      λ t. let s = h.0 t in (capped_some (least n script) (subst (λ u. IsSome u) e s.0), subst (λ u. u ≤ 16777216) counted s.1),
      λ t. h.1 (subst (λ u. IsSome u) (sym e) (some_capped (least n script) t.0), subst (λ u. u ≤ 16777216) (sym counted) t.1),
    )

pub is_plan : (n : Tree) (p : Plan) → p.table.rows.items ≡ table_rows n script → rows n script ≤ 16777216 → Some p.table.total ≡ least n script
    → ((r : ℕ) → is_flagged p.wraps.flags.items r ≡ has_number (wrapped_rows n script 1) r) → IsPlan n p
is_plan n p rows_are few total wrapped = record {
  cells = ap (map shown) rows_are ∙ script_shown n few;
  bounds = plan_bounds p.table.rows.items p.table.total n rows_are few total;
  total = total;
  count = sym (wrapped_count n p.table.total (sym total));
  wrapped = wrapped;
  exact = exact_cells p.table.rows.items p.table.total n (ap (map shown) rows_are ∙ script_shown n few) (plan_bounds p.table.rows.items p.table.total n rows_are few total).shape total (sym (wrapped_count n p.table.total (sym total)));
}
