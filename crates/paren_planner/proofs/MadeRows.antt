-- The rows of a node, and those that its steps make: its own, where none may be passed.
use Rattle.std.proofs.Common.{◌≡◌, ◌+◌, Bool, true, false, cond, List, [], ◌∷◌, ◌++◌, Some, None, refl, sym, ap, ap₂, ◌∙◌, append-nil, arith}
use Rattle.std.proofs.lemmas.Bool.{false≢true, true≢false}
use Rattle.tree.specs.Tree.{Tree, node, Parts, none, parts_of}
use Rattle.language.specs.Pieces.{Role, expr, Slot, fixed, left as left_slot, lead, tail, callee, lead_chain, lead_pattern}
use Rattle.language.specs.Grammar.{ways}
use Rattle.language.specs.RowPositions.{first_roles, widest, has_row, rows, parts_rows}
use Rattle.spellings.specs.Spelled.{settled_roles}
use Rattle.spellings.specs.Remaining.{left}
use Rattle.spellings.specs.Wherever.{NodeSpelling, IsSpelledWherever}
use Rattle.cost_table.specs.declared.table.Row.{Row}
use Rattle.cost_table.specs.Weighed.{settled_at}
use Rattle.cost_table.specs.Rows.{row_of, own_row, table_rows, parts_table}
use Rattle.paren_planner.specs.declared.steps.Step.{Step}
use Rattle.paren_planner.specs.Steps.{has_row_at}
use Rattle.paren_planner.specs.Noted.{Steps, unspelled, alone, around, costless, hidden, through, passed, is_settled_slot, PartsSteps, over, skipped, unplaced, next, row_at, made_rows, made_parts}
use Rattle.cost_table.proofs.NodeRowNumbers.{table-part, table-gap, table-end, table-stop, table-empty, roles_some, roles_none}
use Rattle.paren_planner.proofs.WrappedRows.{rows-empty}

-- Rows, by the slot alone

pub own_row_at : (s : Slot) (a : Role) (r : Row) → cond (has_row_at s) (r ∷ []) [] ≡ own_row (settled_at a s) r
own_row_at (fixed (expr y i f)) a r = refl
own_row_at (fixed b) a r = refl
own_row_at (left_slot y) a r = refl
own_row_at (lead y) a r = refl
own_row_at (tail y x) a r = refl
own_row_at callee a r = refl
own_row_at lead_chain a r = refl
own_row_at lead_pattern a r = refl

pub no_row_here : (s : Slot) (a : Role) → has_row_at s ≡ false → has_row (settled_at a s) ≡ 0
no_row_here (fixed (expr y i f)) a h = absurd (true≢false h)
no_row_here (fixed b) a h = refl
no_row_here (left_slot y) a h = absurd (true≢false h)
no_row_here (lead y) a h = absurd (true≢false h)
no_row_here (tail y x) a h = absurd (true≢false h)
no_row_here callee a h = absurd (true≢false h)
no_row_here lead_chain a h = refl
no_row_here lead_pattern a h = refl

pub settled_rowless : (s : Slot) → is_settled_slot s ≡ true → has_row_at s ≡ false
settled_rowless (fixed (expr y i f)) h = absurd (false≢true h)
settled_rowless (fixed b) h = refl
settled_rowless (left_slot y) h = absurd (false≢true h)
settled_rowless (lead y) h = absurd (false≢true h)
settled_rowless (tail y x) h = absurd (false≢true h)
settled_rowless callee h = absurd (false≢true h)
settled_rowless lead_chain h = absurd (false≢true h)
settled_rowless lead_pattern h = absurd (false≢true h)

-- How many

rows_split : (n : Tree) (p : Role) → rows n p ≡ has_row p + parts_rows (parts_of n) (first_roles (ways (widest p) n))
unfolding rows
rows_split (node k w g s e ps) p = refl

no_part_rows : (n : Tree) (xs : List Role) → parts_of n ≡ none → parts_rows (parts_of n) xs ≡ 0
unfolding parts_rows
no_part_rows n xs h = ap (λ ps. parts_rows ps xs) h

-- without parts, without a spelling, and with both
pub bare_rows : (a : Role) (s : Slot) (n : Tree) → parts_of n ≡ none → has_row (settled_at a s) ≡ rows n (settled_at a s)
bare_rows a s n e =
    let r = rows_split n (settled_at a s) in
    let z = no_part_rows n (first_roles (ways (widest (settled_at a s)) n)) e in
    omega (arith, r, z)

pub no_way_rows : (a : Role) (s : Slot) (n : Tree) → IsSpelledWherever (widest (settled_at a s)) n None → has_row (settled_at a s) ≡ rows n (settled_at a s)
no_way_rows a s n k =
    let r = rows_split n (settled_at a s) in
    let z : parts_rows (parts_of n) (first_roles (ways (widest (settled_at a s)) n)) ≡ 0 = ap (parts_rows (parts_of n)) (roles_none (settled_at a s) n k) ∙ rows-empty (parts_of n) in
    omega (arith, r, z)

pub spelled_rows : (a : Role) (s : Slot) (n : Tree) (x : NodeSpelling) → IsSpelledWherever (widest (settled_at a s)) n (Some x) →
    has_row (settled_at a s) + parts_rows (parts_of n) (settled_roles (widest (settled_at a s)) (left x.slots)) ≡ rows n (settled_at a s)
spelled_rows a s n x k = ap (λ u. has_row (settled_at a s) + parts_rows (parts_of n) u) (sym (roles_some (settled_at a s) n x k)) ∙ sym (rows_split n (settled_at a s))

pub hidden_rows : (a : Role) (s : Slot) (n : Tree) → has_row_at s ≡ false → parts_of n ≡ none → rows n (settled_at a s) ≡ 0
hidden_rows a s n h e = sym (bare_rows a s n e) ∙ no_row_here s a h

pub through_rows : (a : Role) (s : Slot) (n : Tree) (x : NodeSpelling) → IsSpelledWherever (widest (settled_at a s)) n (Some x) → is_settled_slot s ≡ true →
    parts_rows (parts_of n) (settled_roles (widest (settled_at a s)) (left x.slots)) ≡ rows n (settled_at a s)
through_rows a s n x k h =
    let r = spelled_rows a s n x k in
    let o = no_row_here s a (settled_rowless s h) in
    omega (arith, r, o)

-- Which

rows_of_node : (n : Tree) (p : Role) → own_row p (row_of n) ++ parts_table (parts_of n) (first_roles (ways (widest p) n)) ≡ table_rows n p
unfolding table_rows
rows_of_node (node k w g s e ps) p = refl

-- a node's own row, and those of its parts
rows_with : (a : Role) (s : Slot) (n : Tree) (R : List Row) → R ≡ parts_table (parts_of n) (first_roles (ways (widest (settled_at a s)) n)) → row_at s n ++ R ≡ table_rows n (settled_at a s)
rows_with a s n R e = ap₂ (λ u v. u ++ v) (own_row_at s a (row_of n)) e ∙ rows_of_node n (settled_at a s)

rows_without : (a : Role) (s : Slot) (n : Tree) → parts_table (parts_of n) (first_roles (ways (widest (settled_at a s)) n)) ≡ [] → row_at s n ≡ table_rows n (settled_at a s)
rows_without a s n e = sym (append-nil (row_at s n)) ∙ rows_with a s n [] (sym e)

rows_below : (a : Role) (s : Slot) (n : Tree) (R : List Row) → has_row_at s ≡ false → R ≡ parts_table (parts_of n) (first_roles (ways (widest (settled_at a s)) n)) → R ≡ table_rows n (settled_at a s)
rows_below a s n R h e = ap (λ b. cond b (row_of n ∷ []) [] ++ R) (sym h) ∙ rows_with a s n R e

none_below : (n : Tree) (xs : List Role) → parts_of n ≡ none → parts_table (parts_of n) xs ≡ []
none_below n xs e = ap (λ ps. parts_table ps xs) e ∙ table-end xs

mutual
  unfolding made_rows made_parts

  pub made_true : {may_pass : Bool} {a : Role} {s : Slot} {n : Tree} {xs : List Step} → (h : Steps may_pass a s n xs) → may_pass ≡ false → made_rows h ≡ table_rows n (settled_at a s)
  made_true {a} {s} {n} (unspelled v i l k e) m = rows_without a s n (ap (parts_table (parts_of n)) (roles_none (settled_at a s) n k) ∙ table-empty (parts_of n))
  made_true {a} {s} {n} (alone v x i l k p e) m = rows_without a s n (none_below n _ p)
  made_true {a} {s} {n} (around v x ys i l k h e) m = rows_with a s n (made_parts h) (made_parts_true h m ∙ ap (parts_table (parts_of n)) (sym (roles_some (settled_at a s) n x k)))
  made_true {a} {s} {n} (costless x ys k p r f h g z) m = rows_with a s n (made_parts h) (made_parts_true h m ∙ ap (parts_table (parts_of n)) (sym (roles_some (settled_at a s) n x k)))
  made_true {a} {s} {n} (hidden x k p e r z) m = rows_below a s n [] r (sym (none_below n _ e))
  made_true {a} {s} {n} (through x k r g h) m = rows_below a s n (made_parts h) (settled_rowless s r) (made_parts_true h m ∙ ap (parts_table (parts_of n)) (sym (roles_some (settled_at a s) n x k)))
  made_true (passed k l f z e i) m = absurd (false≢true (sym m ∙ l))

  made_parts_true : {may_pass : Bool} {a : Role} {ss : List Slot} {ps : Parts} {xs : List Step} → (h : PartsSteps may_pass a ss ps xs) → may_pass ≡ false → made_parts h ≡ parts_table ps (settled_roles a ss)
  made_parts_true {a} {ss} over m = sym (table-end (settled_roles a ss))
  made_parts_true {a} {ss} (skipped {ps = ps} h) m = made_parts_true h m ∙ sym (table-gap ps (settled_roles a ss))
  made_parts_true (unplaced {n = n} {ps = ps}) m = sym (table-stop n ps)
  made_parts_true {a} (next {s = s} {ss = ss} {n = n} {ps = ps} xs ys p h e) m = ap₂ (λ u v. u ++ v) (made_true p m) (made_parts_true h m) ∙ sym (table-part n ps a s ss)
