-- What is proved of the tables of plans.
use Rattle.std.specs.Prelude.{◌≡◌, ◌≤◌, ℕ, List, length, IsTrue, None}
use Rattle.std.specs.Str.{IsUtf8}
use Rattle.tree.specs.declared.kind.Pair.{Pair}
use Rattle.tree.specs.Tree.{Tree}
use Rattle.language.specs.Pieces.{script}
use Rattle.language.specs.RowPositions.{rows}
use Rattle.language.specs.Claims.{Sound}
use Rattle.language.specs.declared.Language.{Language}
use Rattle.language.specs.Languages.{DerivesIn}
use Rattle.cost_table.specs.Tables.{table_of}
use Rattle.paren_planner.specs.declared.wrap_plan.Plan.{Plan}
use Rattle.paren_planner.specs.Plans.{IsPlan}
use Rattle.cost_certificate.specs.Faults.{first_fault}
use Rattle.cost_certificate.specs.Forms.{Format, is_formed, is_table, read_text, table_text}

-- the table of a plan is sound
abbrev pub PlanIsSound : Type 0
PlanIsSound = (n : Tree) (p : Plan) → IsPlan n p → Sound (table_of p.table.rows.items p.table.total) n

-- the table of a plan has no fault, so it passes
abbrev pub PlanPasses : Type 0
PlanPasses = (n : Tree) (p : Plan) → IsPlan n p → first_fault (table_of p.table.rows.items p.table.total) n ≡ None

-- the table of a plan has no more rows than the script
abbrev pub PlanIsShort : Type 0
PlanIsShort = (n : Tree) (p : Plan) → rows n script ≤ 16777216 → IsPlan n p → length p.table.rows.items ≤ 16777216

-- the table of a plan, for a script or module that some text derives in a language, is read back from its text, in either format
abbrev pub PlanReadsBack : Type 0
PlanReadsBack =
    (language : Language) (text : List ℕ) (n : Tree) (P : List Pair) (p : Plan) → IsUtf8 text → DerivesIn language text n P → rows n script ≤ 16777216 → IsPlan n p → (f : Format) →
    let t = table_of p.table.rows.items p.table.total in IsTrue (is_formed t) × (read_text (table_text f t) ≡ is_table f t)
