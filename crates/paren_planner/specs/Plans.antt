-- Which scripts have a plan, and what a plan says.
use Rattle.std.specs.Prelude.{◌≡◌, ℕ, ◌≤◌, Bool, List, Some, map, length, IsSome}
use Rattle.std.specs.Str.{IsUtf8}
use Rattle.tree.specs.declared.kind.Pair.{Pair}
use Rattle.tree.specs.Tree.{Tree}
use Rattle.language.specs.Pieces.{script}
use Rattle.language.specs.Cost.{least}
use Rattle.language.specs.Layout.{has_number, wrapped_rows}
use Rattle.language.specs.declared.Language.{Language}
use Rattle.language.specs.Languages.{DerivesIn}
use Rattle.language.specs.RowPositions.{rows}
use Rattle.paren_planner.specs.declared.wrap_plan.Plan.{Plan}
use Rattle.language.specs.ExactIn.{ExactIn}
use Rattle.cost_table.specs.Rows.{cell_rows, shown}
use Rattle.cost_table.specs.Tables.{MeetsBounds, table_of}
use Rattle.wrap_flags.specs.Flags.{is_flagged}

-- some source text derives this script or module in a language, with these grouping pairs
pub record IsDerived (n : Tree) (P : List Pair) : Type 0 where
  pub language : Language
  pub text : List ℕ
  pub utf8 : IsUtf8 text
  pub short : length text ≤ 16777216
  pub derived : DerivesIn language text n P

-- of each row, in order, these flags say whether its node is wrapped
abbrev pub AreWraps : Tree → List Bool → Type 0
AreWraps n wraps = (r : ℕ) → is_flagged wraps r ≡ has_number (wrapped_rows n script 1) r

-- some number of pairs spells the script, and it has no more rows than a text may have bytes
abbrev pub HasPlan : Tree → Type 0
HasPlan n = IsSome (least n script) × (rows n script ≤ 16777216)

-- The table's rows have the definition's cells, each cell meets its bound, the total is the script's least cost and the number of its
-- wrapped nodes, and the flags are those of these nodes. Where some text derives the script or module in a language, each cell is the least number of pairs over all
-- direct spellings of its node there, attained by the node's layout, and the total is the fewest.
pub record IsPlan (n : Tree) (p : Plan) : Type 0 where
  pub cells : map shown p.table.rows.items ≡ cell_rows n
  pub bounds : MeetsBounds (table_of p.table.rows.items p.table.total) n
  pub total : Some p.table.total ≡ least n script
  pub count : p.table.total ≡ length (wrapped_rows n script 1)
  pub wrapped : (r : ℕ) → is_flagged p.wraps.flags.items r ≡ has_number (wrapped_rows n script 1) r
  pub exact : (language : Language) (text : List ℕ) (P : List Pair) → IsUtf8 text → DerivesIn language text n P → ExactIn language (table_of p.table.rows.items p.table.total) n
