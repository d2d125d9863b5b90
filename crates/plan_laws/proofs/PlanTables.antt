-- The table of a plan is sound.
use Rattle.std.proofs.Common.{◌≡◌, ℕ, Option, Some, None, arith}
use Rattle.tree.specs.Tree.{Tree}
use Rattle.language.specs.Claims.{Sound, NoGreater}
use Rattle.paren_planner.specs.declared.wrap_plan.Plan.{Plan}
use Rattle.paren_planner.specs.Plans.{IsPlan}
use Rattle.cost_table.specs.Tables.{table_of}

equal_no_greater : (x y : Option ℕ) → x ≡ y → NoGreater x y
equal_no_greater x None h = tt
equal_no_greater None (Some b) h = absurd (cc)
equal_no_greater (Some c) (Some b) h = let e : c ≡ b = cc in omega (arith, e)

pub plan_sound : (n : Tree) (p : Plan) → IsPlan n p → Sound (table_of p.table.rows.items p.table.total) n
plan_sound n p h = record {
  shape = h.bounds.shape;
  below = λ r m x c a y. equal_no_greater _ _ (h.bounds.cells r m x c a y);
  total = equal_no_greater _ _ h.bounds.total;
}
