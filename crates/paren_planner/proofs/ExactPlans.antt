-- Of a script or module that some text derives in a language, the table of its cells is exact.
use Rattle.std.proofs.Common.{◌≡◌, ℕ, zero, suc, ◌≤◌, Bool, List, ◌∷◌, [], length, Option, Some, None, refl, sym, ap, ◌∙◌, subst, arith}
use Rattle.std.specs.Prelude.{map, slice_get}
use Rattle.std.specs.Str.{IsUtf8}
use Rattle.tree.specs.declared.kind.Pair.{Pair}
use Rattle.tree.specs.Tree.{Tree, kind_of}
use Rattle.language.specs.declared.Rank.{Rank}
use Rattle.language.specs.declared.Start.{Start}
use Rattle.language.specs.Pieces.{Role, expr, script}
use Rattle.language.specs.Cost.{AtMost, at_most, least, cell}
use Rattle.language.specs.Layout.{fixed_text, wrapped_rows}
use Rattle.language.specs.declared.Language.{Language}
use Rattle.language.specs.Languages.{DerivesIn}
use Rattle.language.specs.Claims.{row_nodes, contexts, table_cell, cell_at}
use Rattle.language.proofs.lower_bound.LeastPairs.{derived_at_least_in}
use Rattle.language.proofs.layout.FixedReads.{fixed_always_in}
use Rattle.cost_table.specs.declared.table.Row.{Row}
use Rattle.cost_table.specs.Rows.{celled, shown, cell_rows}
use Rattle.cost_table.specs.Tables.{table_of}
use Rattle.language.specs.ExactIn.{IsLeastIn, FewestIn, ExactIn}
use Rattle.paren_planner.proofs.Somewhere.{row_somewhere}
use Rattle.paren_planner.proofs.AttainedCells.{least_cell}

celled_row : (ns : List Tree) (r : ℕ) (m : Tree) → slice_get ns r ≡ Some m → slice_get (map celled ns) r ≡ Some (celled m)
celled_row [] r m h = absurd (cc)
celled_row (n ∷ ns) zero m h = let e : n ≡ m = cc in ap (λ x. Some (celled x)) e
celled_row (n ∷ ns) (suc r) m h = celled_row ns r m h

-- the position of a cell is an expression's, and the cell is the node's there
pub record Context (m : Tree) (c : ℕ) (a : Role) : Type 0 where
  pub rank : Rank
  pub has_in : Bool
  pub start : Start
  pub is : expr rank has_in start ≡ a
  pub cell : cell_at (Some (celled m)) c ≡ Rattle.language.specs.Cost.cell m a

at_context : (m : Tree) (c : ℕ) (y : Rank) (i : Bool) (f : Start) (a : Role) → expr y i f ≡ a → cell_at (Some (celled m)) c ≡ cell m (expr y i f) → Context m c a
at_context m c y i f a e h = record { rank = y; has_in = i; start = f; is = e; cell = h ∙ ap (cell m) e }

pub context : (m : Tree) (c : ℕ) (a : Role) → slice_get contexts c ≡ Some a → Context m c a
unfolding Rattle.language.specs.Cost.cells
context m zero a h = at_context m 0 _ _ _ a (cc) refl
context m (suc zero) a h = at_context m 1 _ _ _ a (cc) refl
context m (suc (suc zero)) a h = at_context m 2 _ _ _ a (cc) refl
context m (suc (suc (suc zero))) a h = at_context m 3 _ _ _ a (cc) refl
context m (suc (suc (suc (suc zero)))) a h = at_context m 4 _ _ _ a (cc) refl
context m (suc (suc (suc (suc (suc zero))))) a h = at_context m 5 _ _ _ a (cc) refl
context m (suc (suc (suc (suc (suc (suc zero)))))) a h = at_context m 6 _ _ _ a (cc) refl
context m (suc (suc (suc (suc (suc (suc (suc zero))))))) a h = at_context m 7 _ _ _ a (cc) refl
context m (suc (suc (suc (suc (suc (suc (suc (suc c)))))))) a h = absurd (cc)

table_cell_is : (T : List Row) (total : ℕ) (n : Tree) → map shown T ≡ cell_rows n → (r : ℕ) (m : Tree) → slice_get (row_nodes n script) r ≡ Some m → (c : ℕ) (a : Role) → slice_get contexts c ≡ Some a →
    table_cell (table_of T total) (suc r) c ≡ cell m a
table_cell_is T total n h r m x c a y =
    ap (λ rows. cell_at (slice_get rows r) c) h ∙ ap (λ o. cell_at o c) (celled_row (row_nodes n script) r m x) ∙ (context m c a y).cell

bounded : (x : Option ℕ) (c m : ℕ) → Some c ≡ x → AtMost x m → c ≤ m
bounded None c m h k = elim k [ ]
bounded (Some b) c m h (at_most k) = let e : c ≡ b = cc in omega (arith, e, k)

fewest : (language : Language) (text : List ℕ) (n : Tree) (P : List Pair) (total : ℕ) → IsUtf8 text → DerivesIn language text n P → Some total ≡ least n script → total ≡ length (wrapped_rows n script 1) → FewestIn language n total
fewest language text n P total u d h count =
    let z = fixed_always_in language text n P u d in
    record {
      attained = (fixed_text n, z.0, z.1, z.2, (_, z.3), z.4 ∙ sym count);
      least = λ other text m Q e k. bounded (least n script) total (length Q) h (derived_at_least_in other n m text Q e k);
    }

pub exact_cells : (T : List Row) (total : ℕ) (n : Tree) → map shown T ≡ cell_rows n → map (λ x. x.0) (map shown T) ≡ map kind_of (row_nodes n script) → Some total ≡ least n script → total ≡ length (wrapped_rows n script 1) →
    (language : Language) (text : List ℕ) (P : List Pair) → IsUtf8 text → DerivesIn language text n P → ExactIn language (table_of T total) n
exact_cells T total n cells shape h count language text P u d = record {
  shape = shape;
  cells = λ r m x c a y.
      let k = context m c a y in
      subst (λ b. IsLeastIn language b m (table_cell (table_of T total) (suc r) c)) k.is
      (subst (λ v. IsLeastIn language (expr k.rank k.has_in k.start) m v) (sym (table_cell_is T total n cells r m x c a y))
      (least_cell language text u m k.rank k.has_in k.start _ (row_somewhere language text n P u d r m x) (ap (cell m) k.is)));
  total = fewest language text n P total u d h count;
}
