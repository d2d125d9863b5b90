-- From what the walk found to the fault that is named.
use Rattle.std.proofs.Common.{◌≡◌, ℕ, zero, suc, ◌<◌, ◌≤◌, Bool, true, cond, min, List, [], ◌∷◌, ◌++◌, length, drop, Option, Some, None, Err, Ok, refl, sym, ap, ap₂, ◌∙◌, subst, append-nil, arith}
use Rattle.std.specs.Prelude.{map, Result, ◌↔◌}
use Rattle.std.proofs.lemmas.Bool.{and_parts}
use Rattle.source_text.specs.declared.fault.Reason.TheVariants as reason
use Rattle.tree.specs.declared.kind.Kind.{Kind}
use Rattle.tree.specs.Tree.{Tree, node, Parts, none, part, gap, kind_of}
use Rattle.language.specs.declared.Rank.TheVariants.{Expression}
use Rattle.language.specs.declared.Start.TheVariants.{Any}
use Rattle.language.specs.Pieces.{Role, expr, script}
use Rattle.language.specs.Grammar.{ways}
use Rattle.language.specs.RowPositions.{first_roles, widest}
use Rattle.language.specs.Claims.{Table, Sound, row_nodes, parts_row_nodes, bound_at, total_bound}
use Rattle.spellings.proofs.Slots.{is_wide, all_pass, parts_wide}
use Rattle.cost_table.specs.Costs.{capped}
use Rattle.cost_table.specs.declared.table.Row.{Row}
use Rattle.cost_table.specs.Tables.{table_of}
use Rattle.cost_table.proofs.RowNodes.{wide_itself, wide_start}
use Rattle.cost_certificate.specs.declared.check.BadTable.{BadTable}
use Rattle.cost_certificate.specs.declared.check_rows.RowCheck.{RowCheck}
use Rattle.cost_certificate.specs.Checked.{shown, shown_any, Answers, PassesIfSound}
use Rattle.cost_certificate.specs.Faults.{TableFault, or_else, shape_fault, is_above, rows_fault, total_fault, first_fault}
use Rattle.cost_certificate.specs.Walked.{wide_nodes, parts_wide_nodes, Matched, IsPassed}
use Rattle.cost_certificate.proofs.Faultless.{sound_by, faultless_by}
use Rattle.cost_certificate.proofs.CheckedRows.{kinds_length, drop_all}
use Rattle.cost_certificate.proofs.CellRows.{above_capped}

-- A walk at the widest positions meets the nodes that have rows

mutual
  unfolding wide_nodes parts_wide_nodes row_nodes parts_row_nodes

  pub wide_are_rows : (n : Tree) (a : Role) → is_wide a ≡ true → wide_nodes n a ≡ row_nodes n a
  wide_are_rows (node k w g s e ps) (expr y i f) h =
      ap (λ x. node k w g s e ps ∷ x) (parts_wide_are_rows ps (first_roles (ways (expr Expression true Any) (node k w g s e ps))) (parts_wide (expr Expression true Any) (node k w g s e ps) refl))
  wide_are_rows (node k w g s e ps) a h =
      parts_wide_are_rows ps (first_roles (ways (widest a) (node k w g s e ps))) (parts_wide (widest a) (node k w g s e ps) (wide_start a))
      ∙ ap (λ b. parts_row_nodes ps (first_roles (ways b (node k w g s e ps)))) (wide_itself a h refl)

  pub parts_wide_are_rows : (ps : Parts) (xs : List Role) → all_pass is_wide xs ≡ true → parts_wide_nodes ps xs ≡ parts_row_nodes ps xs
  parts_wide_are_rows none xs h = refl
  parts_wide_are_rows (gap ps) xs h = parts_wide_are_rows ps xs h
  parts_wide_are_rows (part n ps) [] h = refl
  parts_wide_are_rows (part n ps) (a ∷ xs) h = let u = and_parts (is_wide a) (all_pass is_wide xs) h in ap₂ (λ x y. x ++ y) (wide_are_rows n a u.0) (parts_wide_are_rows ps xs u.1)

pub script_passed : (t : Table) (n : Tree) (p : RowCheck) → IsPassed t (wide_nodes n script) 0 p → IsPassed t (row_nodes n script) 0 p
script_passed t n p h = subst (λ ns. IsPassed t ns 0 p) (wide_are_rows n script refl) h

-- Shape

left_over : (js : List Kind) (n : ℕ) → n < length js → shape_fault (drop n js) [] (suc n) ≡ Some (suc n, reason.Shape)
left_over js n h = of (drop n js) (drop_some js n h)
  where
    drop_some : (js : List Kind) (n : ℕ) → n < length js → length (drop n js) ≡ 0 → ⊥
    drop_some [] n h e = absurd (omega (arith, h))
    drop_some (j ∷ js) zero h e = absurd (omega (arith, e))
    drop_some (j ∷ js) (suc n) h e = drop_some js n (omega (arith, h)) e

    of : (xs : List Kind) → (length xs ≡ 0 → ⊥) → shape_fault xs [] (suc n) ≡ Some (suc n, reason.Shape)
    of [] g = absurd (g refl)
    of (x ∷ xs) g = refl

matched_all : (js ks : List Kind) (m : Option ℕ) (n : ℕ) → m ≡ None → Matched js ks 0 m n → shape_fault js ks 1 ≡ shape_fault (drop n js) [] (suc n)
matched_all js ks m n e h = ap (λ u. shape_fault js u 1) (sym (append-nil ks)) ∙ (let g : Matched js ks 0 None n = subst (λ x. Matched js ks 0 x n) e h in g [])

first_bad : (js ks : List Kind) (m : Option ℕ) (n i : ℕ) → m ≡ Some i → Matched js ks 0 m n → shape_fault js ks 1 ≡ Some (suc i, reason.Shape)
first_bad js ks m n i e h = ap (λ u. shape_fault js u 1) (sym (append-nil ks)) ∙ (let g : Matched js ks 0 (Some i) n = subst (λ x. Matched js ks 0 x n) e h in g [])

abbrev kinds : Table → List Kind
kinds t = map (λ x. x.0) t.rows

abbrev nodes_kinds : Tree → List Kind
nodes_kinds n = map kind_of (row_nodes n script)

pub misshapen_first : (t : Table) (n : Tree) (p : RowCheck) (i : ℕ) → IsPassed t (row_nodes n script) 0 p → p.misshapen ≡ Some i → first_fault t n ≡ Some (suc i, reason.Shape)
misshapen_first t n p i h e = ap (λ x. or_else x (or_else (rows_fault t (row_nodes n script) 1) (total_fault t n))) (first_bad (kinds t) (nodes_kinds n) p.misshapen p.next i e h.shape)

pub left_over_first : (t : Table) (n : Tree) (p : RowCheck) → IsPassed t (row_nodes n script) 0 p → p.misshapen ≡ None → p.next < length (kinds t) → first_fault t n ≡ Some (suc p.next, reason.Shape)
left_over_first t n p h e l =
    ap (λ x. or_else x (or_else (rows_fault t (row_nodes n script) 1) (total_fault t n))) (matched_all (kinds t) (nodes_kinds n) p.misshapen p.next e h.shape ∙ left_over (kinds t) p.next l)

-- the shape is right
shape_right : (t : Table) (n : Tree) (p : RowCheck) → IsPassed t (row_nodes n script) 0 p → p.misshapen ≡ None → length (kinds t) ≤ p.next → first_fault t n ≡ or_else (shown_any p.fault) (total_fault t n)
shape_right t n p h e l =
    ap (λ x. or_else x (or_else (rows_fault t (row_nodes n script) 1) (total_fault t n)))
    (matched_all (kinds t) (nodes_kinds n) p.misshapen p.next e h.shape ∙ ap (λ u. shape_fault u [] (suc p.next)) (drop_all (kinds t) p.next (omega (arith, l))))
    ∙ ap (λ x. or_else x (total_fault t n)) (sym h.fault)

pub fault_first : (t : Table) (n : Tree) (p : RowCheck) (f : BadTable) → IsPassed t (row_nodes n script) 0 p → p.misshapen ≡ None → length (kinds t) ≤ p.next → p.fault ≡ Some f → first_fault t n ≡ Some (shown f)
fault_first t n p f h e l g = shape_right t n p h e l ∙ ap (λ x. or_else (shown_any x) (total_fault t n)) g

pub total_last : (t : Table) (n : Tree) (p : RowCheck) (b : Option ℕ) (v : Bool) → IsPassed t (row_nodes n script) 0 p → p.misshapen ≡ None → length (kinds t) ≤ p.next → p.fault ≡ None → t.total < 4294967296 →
    b ≡ capped (bound_at t n script 1) → is_above (Some t.total) b ≡ v → first_fault t n ≡ cond v (Some (0, reason.Total)) None
unfolding total_bound capped
total_last t n p b v h e l g s q a =
    let small : min t.total 4294967295 ≡ t.total = omega (arith, s) in
    shape_right t n p h e l ∙ ap (λ x. or_else (shown_any x) (total_fault t n)) g
    ∙ ap (λ x. cond x (Some (0, reason.Total)) None) (sym (above_capped (Some t.total) (bound_at t n script 1) (ap (λ k. Some k) small)) ∙ ap (is_above (Some t.total)) (sym q) ∙ a)

-- The answer

pub answer_fault : (x : Option TableFault) (y : TableFault) (total : ℕ) (b : BadTable) (r : Result ℕ BadTable) → x ≡ Some y → shown b ≡ y → r ≡ Err b → Answers x total r
answer_fault x y total b r e s q = subst (λ z. Answers z total r) (sym e) (subst (λ z. Answers (Some y) total z) (sym q) s)

pub answer_total : (x : Option TableFault) (total n : ℕ) → x ≡ None → n ≡ total → Answers x total (Ok n)
answer_total x total n e q = subst (λ z. Answers z total (Ok n)) (sym e) q

pub rows_are : (rows : List Row) (total : ℕ) → length (map (λ x. x.0) (table_of rows total).rows) ≡ length rows
rows_are rows total = kinds_length rows

pub below_index : (m : Option ℕ) (i n : ℕ) → m ≡ Some i → Rattle.cost_certificate.specs.Walked.IsBelow m n → i < n
below_index None i n e h = absurd (cc)
below_index (Some k) i n e h = let z : k ≡ i = cc in omega (arith, z, h)

-- the answer says whether the table is sound
pub answer_sound : (t : Table) (n : Tree) (r : Result ℕ BadTable) → Answers (first_fault t n) t.total r → PassesIfSound t n r
answer_sound t n r h typed = of (first_fault t n) refl r h
  where
    of : (x : Option TableFault) → first_fault t n ≡ x → (r : Result ℕ BadTable) → Answers x t.total r → (r ≡ Ok t.total) ↔ Sound t n
    of None e (Ok k) h = (λ _. sound_by t n typed e, λ _. ap (λ m. Ok m) h)
    of None e (Err b) h = absurd h
    of (Some x) e (Ok k) h = absurd h
    of (Some x) e (Err b) h = (λ q. absurd (cc), λ s. let none = faultless_by t n s in absurd (cc))
