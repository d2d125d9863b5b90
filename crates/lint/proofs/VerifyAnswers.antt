-- From what is read of a table, and what is wrong with it, to what `verify` answers.
use Rattle.std.proofs.Common.{◌≡◌, ◌≤◌, ◌&&◌, nat_le, nat_eq, ap, ℕ, List, [], ◌∷◌, length, Bool, true, false, refl, sym, subst, ◌∙◌, Option, Some, None, Result, Ok, Err, inl, inr}
use Rattle.std.proofs.lemmas.Bool.{and_parts, and_from}
use Rattle.source_text.specs.declared.fault.Fault.{Fault}
use Rattle.source_text.specs.declared.fault.Fault.TheVariants.{NotUtf8, TooLong, Syntax, TooDeep, Early, OutOfMemory, BadSettings, BadTable, WriteFailed, ReadFailed, UnwrapFailed, FormatFailed, Usage}
use Rattle.source_text.specs.declared.fault.Reason.{Reason}
use Rattle.source_text.specs.declared.fault.Reason.TheVariants as reason
use Rattle.commands.specs.declared.command.Command.TheVariants.{Cost, Verify}
use Rattle.tree.specs.declared.kind.Kind.{Kind}
use Rattle.tree.specs.declared.kind.Pair.{Pair}
use Rattle.tree.specs.Tree.{Tree, SameTree}
use Rattle.language.specs.declared.Language.{Language}
use Rattle.language.specs.Claims.{Table, max_open}
use Rattle.language.specs.Languages.{DerivesIn}
use Rattle.cost_table.specs.declared.table.CostTable.{CostTable}
use Rattle.cost_table.specs.Tables.{table_of}
use Rattle.cost_certificate.specs.declared.check.BadTable.{BadTable as Bad}
use Rattle.cost_certificate.specs.Types.{has_type, all_typed}
use Rattle.cost_certificate.specs.Forms.{ReadTable, is_table, bad_line, read_text, IsTable, is_row, all_rows, all_small, limit, IsBadLine, short, table_text}
use Rattle.cost_certificate.specs.Faults.{TableFault, first_fault}
use Rattle.cost_certificate.specs.Checked.{Answers as Judges}
use Rattle.cost_certificate.specs.Read.{Reads}
use Rattle.cost_certificate.proofs.TableTexts.{read_is}
use Rattle.cost_certificate.proofs.FirstWrongLine.{departs}
use Rattle.cost_certificate.proofs.Faultless.{sound_by}
use Rattle.cost_certificate.specs.Sent.{WritesOrFails}
use Rattle.source_text.specs.Writing.{AppendsBeginning}
use Rattle.parser.specs.declared.script.Parsed.{Parsed}
use Rattle.paren_planner.specs.declared.wrap_plan.Plan.{Plan}
use Rattle.cost_table.specs.declared.table.Row.{Row}
use Rattle.paren_planner.specs.Plans.{IsPlan}
use Rattle.rules.specs.Reports.{Report}
use Rattle.rules.specs.Rules.{View}
use Rattle.lint.specs.declared.answer.Answer.{Answer}
use Rattle.lint.specs.declared.answer.Answer.TheVariants.{Table as Writes}
use Rattle.lint.specs.ReadScripts.{IsReading}
use Rattle.lint.specs.Outputs.{IsSecond, pairs_line, Verifies, RefusesTable}
use Rattle.lint.specs.Steps.{Answers, AnswersAlone, ReadsTable, output_of, status_of}

-- ---- reading

from_table : (second : List ℕ) (table : CostTable) (x : ReadTable) → read_text second ≡ x → Reads x (Ok table) → IsTable second (table_of table.rows.items table.total)
from_table second table (is_table f t) e is = let found = read_is second f t e in subst (IsTable second) (sym is) (f, found.0, found.1)
from_table second table (bad_line r) e is = absurd is

-- a table that was read is that of the text
pub table_read : (second : List ℕ) (table : CostTable) → Reads (read_text second) (Ok table) → IsTable second (table_of table.rows.items table.total)
table_read second table is = from_table second table (read_text second) refl is

from_line : (given : Option (List ℕ)) (second : List ℕ) (row : ℕ) (why : Reason) (x : ReadTable) → IsSecond Verify given second → read_text second ≡ x → Reads x (Err (BadTable row why)) → ReadsTable given (Err (BadTable row why)) false
from_line given second row reason.Form (bad_line r) read e is = (refl, refl, (second, read, subst (IsBadLine second) (sym is) (departs second r e)))
from_line given second row reason.Shape (bad_line r) read e is = absurd is
from_line given second row reason.None (bad_line r) read e is = absurd is
from_line given second row reason.High (bad_line r) read e is = absurd is
from_line given second row reason.Total (bad_line r) read e is = absurd is
from_line given second row reason.Form (is_table f t) read e is = absurd is
from_line given second row reason.Shape (is_table f t) read e is = absurd is
from_line given second row reason.None (is_table f t) read e is = absurd is
from_line given second row reason.High (is_table f t) read e is = absurd is
from_line given second row reason.Total (is_table f t) read e is = absurd is

-- no other fault is one of reading a table
abbrev IsOther : Fault → Type 0
IsOther OutOfMemory = ⊥
IsOther (BadTable row why) = ⊥
IsOther other = Unit {0}

from_other : (fault : Fault) (x : ReadTable) → IsOther fault → Reads x (Err fault) → ⊥
from_other (NotUtf8 at) (is_table f t) other is = is
from_other (NotUtf8 at) (bad_line r) other is = is
from_other TooLong (is_table f t) other is = is
from_other TooLong (bad_line r) other is = is
from_other (Syntax at) (is_table f t) other is = is
from_other (Syntax at) (bad_line r) other is = is
from_other TooDeep (is_table f t) other is = is
from_other TooDeep (bad_line r) other is = is
from_other (Early number at) (is_table f t) other is = is
from_other (Early number at) (bad_line r) other is = is
from_other BadSettings (is_table f t) other is = is
from_other BadSettings (bad_line r) other is = is
from_other WriteFailed (is_table f t) other is = is
from_other WriteFailed (bad_line r) other is = is
from_other ReadFailed (is_table f t) other is = is
from_other ReadFailed (bad_line r) other is = is
from_other UnwrapFailed (is_table f t) other is = is
from_other FormatFailed (is_table f t) other is = is
from_other Usage (is_table f t) other is = is
from_other UnwrapFailed (bad_line r) other is = is
from_other FormatFailed (bad_line r) other is = is
from_other Usage (bad_line r) other is = is
from_other OutOfMemory x other is = other
from_other (BadTable row why) x other is = other

-- a text that is no table is refused
pub table_refused : (given : Option (List ℕ)) (second : List ℕ) (fault : Fault) → IsSecond Verify given second → Reads (read_text second) (Err fault) → ReadsTable given (Err fault) false
table_refused given second OutOfMemory read is = refl
table_refused given second (BadTable row why) read is = from_line given second row why (read_text second) read refl is
table_refused given second (NotUtf8 at) read is = absurd (from_other (NotUtf8 at) (read_text second) tt is)
table_refused given second TooLong read is = absurd (from_other TooLong (read_text second) tt is)
table_refused given second (Syntax at) read is = absurd (from_other (Syntax at) (read_text second) tt is)
table_refused given second TooDeep read is = absurd (from_other TooDeep (read_text second) tt is)
table_refused given second (Early number at) read is = absurd (from_other (Early number at) (read_text second) tt is)
table_refused given second BadSettings read is = absurd (from_other BadSettings (read_text second) tt is)
table_refused given second WriteFailed read is = absurd (from_other WriteFailed (read_text second) tt is)
table_refused given second ReadFailed read is = absurd (from_other ReadFailed (read_text second) tt is)
table_refused given second UnwrapFailed read is = absurd (from_other UnwrapFailed (read_text second) tt is)
table_refused given second FormatFailed read is = absurd (from_other FormatFailed (read_text second) tt is)
table_refused given second Usage read is = absurd (from_other Usage (read_text second) tt is)

-- what is answered of a text that was read
pub second_read : (given : Option (List ℕ)) (second : List ℕ) (result : Result CostTable Fault) (failed : Bool) → failed ≡ false → IsSecond Verify given second → Reads (read_text second) result → ReadsTable given result failed
second_read given second (Ok table) failed none read is = (none, (second, read, table_read second table is))
second_read given second (Err fault) failed none read is = subst (ReadsTable given (Err fault)) (sym none) (table_refused given second fault read is)

-- ---- judging

typed : (xs : List (Kind × List (Option ℕ))) → all_rows xs ≡ true → all_typed xs ≡ true
typed [] h = refl
typed (x ∷ xs) h =
    let parts = and_parts (is_row x) (all_rows xs) h in
    let own = and_parts (has_type x.0) (nat_eq (length x.1) 8 && all_small x.1) parts.0 in
    and_from (has_type x.0) (all_typed xs) own.0 (typed xs parts.1)

table_typed : (second : List ℕ) (t : Table) → IsTable second t → all_typed t.rows ≡ true
table_typed second t (f, is, text) =
    let formed = and_parts (nat_le (length t.rows) limit) (all_rows t.rows && nat_le t.total limit) is in
    typed t.rows (and_parts (all_rows t.rows) (nat_le t.total limit) formed.1).0

passed : (x : Option TableFault) (total least : ℕ) → Judges x total (Ok least) → (x ≡ None) × (least ≡ total)
passed None total least is = (refl, is)
passed (Some fault) total least is = absurd is

failed : (x : Option TableFault) (total : ℕ) (bad : Bad) → Judges x total (Err bad) → x ≡ Some (bad.row, bad.reason)
failed None total bad is = absurd is
failed (Some fault) total bad is = ap Some (sym is)

-- what is answered for a sound table
pub verifies : (n : Tree) (P : List Pair) (second line : List ℕ) (t : Table) (least : ℕ) → IsTable second t → Judges (first_fault t n) t.total (Ok least)
    → ((language : Language) (text : List ℕ) (m : Tree) (Q : List Pair) → SameTree m n → DerivesIn language text m Q → least ≤ length Q) → line ≡ pairs_line (length P) least → Verifies n P second line
verifies n P second line t least is judged bound laid =
    let sound = passed (first_fault t n) t.total least judged in record {
      table = t;
      is_table = is;
      sound = sound_by t n (table_typed second t is) sound.0;
      least = λ language text m Q same derives. subst (λ k. k ≤ length Q) sound.1 (bound language text m Q same derives);
      line = laid ∙ ap (pairs_line (length P)) sound.1;
    }

-- the first fault of a table is what it is refused for
pub refuses : (n : Tree) (second : List ℕ) (t : Table) (bad : Bad) → IsTable second t → Judges (first_fault t n) t.total (Err bad) → RefusesTable n second bad.row bad.reason
refuses n second t bad is judged = inr (t, is, failed (first_fault t n) t.total bad judged)

-- what is answered where there is no table
pub no_table : (finds : View → List Report) (language : Language) (text : List ℕ) (n : Tree) (P : List Pair) (given : Option (List ℕ)) (fault : Fault) (failed : Bool) → ReadsTable given (Err fault) failed → Answers finds language Verify text n P given (Err fault) failed
no_table finds language text n P given ReadFailed failed read = (read, refl)
no_table finds language text n P given OutOfMemory failed read = read
no_table finds language text n P given (BadTable row why) failed read = (read.0, (read.2.0, read.2.1, (refl, inl (read.1, read.2.2))))
no_table finds language text n P given (NotUtf8 at) failed read = absurd read
no_table finds language text n P given TooLong failed read = absurd read
no_table finds language text n P given (Syntax at) failed read = absurd read
no_table finds language text n P given TooDeep failed read = absurd read
no_table finds language text n P given (Early number at) failed read = absurd read
no_table finds language text n P given BadSettings failed read = absurd read
no_table finds language text n P given WriteFailed failed read = absurd read
no_table finds language text n P given UnwrapFailed failed read = absurd read
no_table finds language text n P given FormatFailed failed read = absurd read
no_table finds language text n P given Usage failed read = absurd read

-- where the table is sound
pub sound_table : (finds : View → List Report) (language : Language) (text : List ℕ) (n : Tree) (P : List Pair) (given : Option (List ℕ)) (failed : Bool) (table : CostTable) (least : ℕ) (answer : Answer)
    → ReadsTable given (Ok table) failed → Judges (first_fault (table_of table.rows.items table.total) n) table.total (Ok least)
    → ((language : Language) (text : List ℕ) (m : Tree) (Q : List Pair) → SameTree m n → DerivesIn language text m Q → least ≤ length Q) → output_of answer ≡ pairs_line (length P) least → status_of answer ≡ 0
    → Answers finds language Verify text n P given (Ok answer) failed
sound_table finds language text n P given failed table least answer read judged bound laid status =
    (read.0, (read.1.0, read.1.1, (verifies n P read.1.0 (output_of answer) (table_of table.rows.items table.total) least read.1.2 judged bound laid, status)))

-- where it isn't
pub faulty_table : (finds : View → List Report) (language : Language) (text : List ℕ) (n : Tree) (P : List Pair) (given : Option (List ℕ)) (failed : Bool) (table : CostTable) (bad : Bad)
    → ReadsTable given (Ok table) failed → Judges (first_fault (table_of table.rows.items table.total) n) table.total (Err bad) → Answers finds language Verify text n P given (Err (BadTable bad.row bad.reason)) failed
faulty_table finds language text n P given failed table bad read judged =
    (read.0, (read.1.0, read.1.1, (refl, refuses n read.1.0 (table_of table.rows.items table.total) bad read.1.2 judged)))

-- ---- cost

-- the table of a plan is what `cost` writes
pub planned : (language : Language) (text : List ℕ) (n : Tree) (P : List Pair) (parsed : Parsed) (plan : Plan) → IsReading language text n P → IsPlan n plan → AnswersAlone language Cost text n P (Ok (Writes parsed plan))
planned language text n P parsed plan reading meets = λ finds given. (
  refl,
  (
    [],
    refl,
    (
      record {
        table = table_of plan.table.rows.items plan.table.total;
        bounds = meets.bounds;
        exact = meets.exact language text P reading.accepted.source (max_open, reading.accepted.derived.1);
        is_text = refl;
      },
      refl,
    ),
  ),
)

-- ---- writing

-- the text of a plan's table is what the answer writes
pub table_written : (answer : Answer) (parsed : Parsed) (plan : Plan) (rows : List Row) (total : ℕ) → answer ≡ Writes parsed plan → rows ≡ plan.table.rows.items → total ≡ plan.table.total → table_text short (table_of rows total) ≡ output_of answer
table_written answer parsed plan rows total is same sum = ap (λ rs. table_text short (table_of rs total)) same ∙ ap (λ c. table_text short (table_of plan.table.rows.items c)) sum ∙ sym (ap output_of is)

-- a writer that failed took a beginning
pub begins : (text : List ℕ) (fault : Fault) (before after : Option (List ℕ)) (failed : Bool) → WritesOrFails text (Err fault) before after failed → AppendsBeginning before after text × (failed ≡ true)
begins text WriteFailed before after failed is = is
begins text (NotUtf8 at) before after failed is = absurd is
begins text TooLong before after failed is = absurd is
begins text (Syntax at) before after failed is = absurd is
begins text TooDeep before after failed is = absurd is
begins text (Early number at) before after failed is = absurd is
begins text OutOfMemory before after failed is = absurd is
begins text BadSettings before after failed is = absurd is
begins text (BadTable row why) before after failed is = absurd is
begins text ReadFailed before after failed is = absurd is
begins text UnwrapFailed before after failed is = absurd is
begins text FormatFailed before after failed is = absurd is
begins text Usage before after failed is = absurd is
