-- Forwards over the steps of a walk: the flags are the definition's.
use Rattle.std.proofs.Common.{◌≡◌, ℕ, zero, suc, ◌+◌, ◌≤◌, Bool, true, false, cond, min, List, [], ◌∷◌, ◌++◌, length, Option, Some, None, refl, sym, ap, ◌∙◌, subst, append_assoc, append-nil, arith}
use Rattle.std.specs.Prelude.{◌&&◌, not}
use Rattle.std.proofs.lemmas.Bool.{false≢true, and_parts}
use Rattle.std.proofs.lemmas.Bool.Decides.{nat_tests}
use Rattle.std.proofs.lemmas.List.{replicate-append-replicate}
use Rattle.tree.specs.Tree.{Tree, Parts, none, parts_of}
use Rattle.language.specs.declared.Rank.{Rank}
use Rattle.language.specs.declared.Rank.TheVariants.{Expression}
use Rattle.language.specs.declared.Start.{Start}
use Rattle.language.specs.declared.Start.TheVariants.{Any}
use Rattle.language.specs.Pieces.{Role, expr, chain_part, pattern, script, Slot, fixed, left as left_slot, lead, tail, callee, lead_chain, lead_pattern}
use Rattle.language.specs.Grammar.{ways}
use Rattle.language.specs.RowPositions.{first_roles, widest, has_row, rows, parts_rows}
use Rattle.language.specs.Layout.{some_way, wants_pair, inside, parts_wrapped}
use Rattle.language.specs.Cost.{if_any, cell, cell_position, least, parts_least}
use Rattle.spelling_table.specs.declared.outline.Outline.{Outline}
use Rattle.spelling_table.specs.Outlines.{slot_of}
use Rattle.spelling_table.specs.Requirements.{fits_outline}
use Rattle.spellings.specs.Spelled.{settled_roles, Verdict}
use Rattle.spellings.specs.Remaining.{left}
use Rattle.spellings.specs.Wherever.{NodeSpelling, with_own, IsSpelledWherever, spelled_roles}
use Rattle.spellings.proofs.SlotSteps.{spelled_here}
use Rattle.spellings.proofs.Slots.{is_plain, all_pass, parts_plain}
use Rattle.cost_table.specs.declared.costs.Costs.{Costs}
use Rattle.cost_table.specs.declared.table.Row.{Row}
use Rattle.spelling_table.specs.declared.requirements.Requirements.{Requirements}
use Rattle.paren_planner.specs.declared.steps.NodeStep.{NodeStep}
use Rattle.paren_planner.specs.declared.steps.Step.{Step}
use Rattle.paren_planner.specs.declared.steps.Step.TheVariants.{Free, Passed, Leaf, Enter, Leave}
use Rattle.cost_table.specs.Costs.{capped, cells_at, no_pairs, is_free}
use Rattle.cost_table.specs.Weighed.{settled_at, cost_of, fitting, sums_over, fits_spelled, slot_free, role_free, is_plain_outline}
use Rattle.cost_table.specs.Rows.{row_of, is_expression}
use Rattle.paren_planner.specs.Wrapped.{unwrapped, flags, parts_flags, inner_flags}
use Rattle.spelling_table.specs.Requirements.{requirements_of}
use Rattle.paren_planner.specs.Steps.{outline_of, stands_at, has_row_at, others}
use Rattle.paren_planner.specs.Noted.{IsVisit, are_free, Steps, unspelled, alone, around, costless, hidden, through, passed, is_settled_slot, is_fixed, are_fixed, PartsSteps, over, skipped, unplaced, next, row_at, made_rows, made_parts}
use Rattle.paren_planner.specs.Marked.{Round, Marks, meets, wants, around_parts, first_row, flag_at, round_at, plain_round, flag_of, round_of, rows_after, marked, marked_through, at_the_start}
use Rattle.cost_table.proofs.Known.{own_widest, counted}
use Rattle.cost_table.proofs.NodeRowNumbers.{weighed_some}
use Rattle.paren_planner.proofs.WrappedRows.{parts-rows, flags-length, parts-flags-length, wrapped-numbers, parts-numbers, no_number}
use Rattle.paren_planner.proofs.Turns.{inner_some, inner_none, plain_flags, wanted, rows_below, own_few, own_result, plain_few, spelled_inside}
use Rattle.paren_planner.proofs.Totals.{node_count, parts_count, cell_roles}
use Rattle.paren_planner.proofs.MadeRows.{settled_rowless, bare_rows, no_way_rows, spelled_rows, hidden_rows, through_rows}
use Rattle.paren_planner.proofs.Backwards.{fits_outlined, free_sums}
use Rattle.cost_table.proofs.Plainly.{plain_fits, cost_free, settled_free}

-- The steps

marked_append : (xs ys : List Step) (t : Marks) → marked_through (xs ++ ys) t ≡ marked_through ys (marked_through xs t)
unfolding marked_through
marked_append [] ys t = refl
marked_append (x ∷ xs) ys t = marked_append xs ys (marked x t)

marked_one : (x : Step) (t : Marks) → marked_through (x ∷ []) t ≡ marked x t
unfolding marked_through
marked_one x t = refl

marked_around : (v : NodeStep) (ys : List Step) (t : Marks) → marked_through (Enter v ∷ (ys ++ Leave ∷ [])) t ≡ marked Leave (marked_through ys (marked (Enter v) t))
unfolding marked_through
marked_around v ys t = marked_append ys (Leave ∷ []) (marked (Enter v) t)

abbrev marks : Round → List Round → List Row → List Bool → Marks
marks x us R bs = record { here = x; outer = us; rows = R; flags = bs }

-- what the steps of a node do: they use rows, and add flags
twice : (x : Round) (us : List Round) (R : List Row) (bs cs ds : List Bool) → marks x us R ((bs ++ cs) ++ ds) ≡ marks x us R (bs ++ (cs ++ ds))
twice x us R bs cs ds = ap (marks x us R) (append_assoc bs cs ds)

not_once : (x : Round) (us : List Round) (R : List Row) (bs : List Bool) → marks x us R bs ≡ marks x us R (bs ++ [])
not_once x us R bs = ap (marks x us R) (sym (append-nil bs))

-- Rows, by the slot alone

row_count : (s : Slot) (a : Role) → cond (has_row_at s) (false ∷ []) [] ≡ unwrapped (has_row (settled_at a s))
row_count (fixed (expr y i f)) a = refl
row_count (fixed b) a = refl
row_count (left_slot y) a = refl
row_count (lead y) a = refl
row_count (tail y x) a = refl
row_count callee a = refl
row_count lead_chain a = refl
row_count lead_pattern a = refl

is_row : (s : Slot) (a : Role) → has_row_at s ≡ is_expression (settled_at a s)
is_row (fixed b) a = refl
is_row (left_slot y) a = refl
is_row (lead y) a = refl
is_row (tail y x) a = refl
is_row callee a = refl
is_row lead_chain a = refl
is_row lead_pattern a = refl

with_settled : (y : Rank) (i : Bool) (f : Start) (b c : Role) (s : Slot) → with_own y i f (settled_at b s) ≡ with_own y i f (settled_at c s)
with_settled y i f b c (fixed r) = refl
with_settled y i f b c (left_slot z) = refl
with_settled y i f b c (lead z) = refl
with_settled y i f b c (tail z x) = refl
with_settled y i f b c callee = refl
with_settled y i f b c lead_chain = refl
with_settled y i f b c lead_pattern = refl

-- what is known of a node is known wherever it stands
spelled_at : (a o : Role) (s : Slot) (n : Tree) (r : Option NodeSpelling) → IsSpelledWherever (widest (settled_at a s)) n r → IsSpelledWherever (settled_at o s) n r
spelled_at a o s n r h = λ y i f. subst (λ b. Verdict (ways b n) (spelled_roles b r)) (own_widest y i f (settled_at a s) ∙ with_settled y i f a o s) (h y i f)

unwrapped_sum : (m k : ℕ) → unwrapped m ++ unwrapped k ≡ unwrapped (m + k)
unwrapped_sum m k = replicate-append-replicate m k false

-- The rows behind a node's own

own_after : (b : Bool) (r : Row) (R : List Row) → cond b (others (cond b (r ∷ []) [] ++ R)) (cond b (r ∷ []) [] ++ R) ≡ R
own_after true r R = refl
own_after false r R = refl

after_own : (s : Slot) (n : Tree) (v : NodeStep) (R : List Row) → slot_of v.slot ≡ s → rows_after v (row_at s n ++ R) ≡ R
after_own s n v R i = ap (λ u. cond (has_row_at u) (others (row_at s n ++ R)) (row_at s n ++ R)) i ∙ own_after (has_row_at s) (row_of n) R

first_own : (b : Bool) (r : Row) (R : List Row) → b ≡ true → first_row (cond b (r ∷ []) [] ++ R) ≡ Some r
first_own true r R h = refl
first_own false r R h = absurd (false≢true h)

-- Where nothing may be wrapped

dead_round : (v : NodeStep) (x : Round) (r : Option Row) → x.may_wrap ≡ false → round_of v x r ≡ x
dead_round v x r h = ap (λ b. cond b (cond (has_row_at (slot_of v.slot)) (round_at r (stands_at x.own v) v.requirements) (plain_round (stands_at x.own v) v.requirements)) x) h

dead_flag : (a : Role) (s : Slot) (n : Tree) (v : NodeStep) (x : Round) (r : Option Row) → IsVisit a s n v → x.may_wrap ≡ false → flag_of v x r ≡ unwrapped (has_row (settled_at a s))
dead_flag a s n v x r i h =
    (λ j. cond (has_row_at (i.slot j)) (cond (h j) (flag_at r (stands_at x.own v) v.requirements) false ∷ []) []) ∙ row_count s a

dead_leaf : (a : Role) (s : Slot) (n : Tree) (v : NodeStep) (x : Round) (us : List Round) (R : List Row) (bs : List Bool) → IsVisit a s n v → x.may_wrap ≡ false → has_row (settled_at a s) ≡ rows n (settled_at a s) →
    marked (Leaf v) (marks x us (row_at s n ++ R) bs) ≡ marks x us R (bs ++ unwrapped (rows n (settled_at a s)))
dead_leaf a s n v x us R bs i h e =
    λ j. marks x us (after_own s n v R i.slot j) (bs ++ (dead_flag a s n v x (first_row (row_at s n ++ R)) i h ∙ ap unwrapped e) j)

dead_enter : (a : Role) (s : Slot) (n : Tree) (v : NodeStep) (x : Round) (us : List Round) (R : List Row) (bs : List Bool) → IsVisit a s n v → x.may_wrap ≡ false →
    marked (Enter v) (marks x us (row_at s n ++ R) bs) ≡ marks x (x ∷ us) R (bs ++ unwrapped (has_row (settled_at a s)))
dead_enter a s n v x us R bs i h =
    let r : Option Row = first_row (row_at s n ++ R) in
    λ j. marks (dead_round v x r h j) (x ∷ us) (after_own s n v R i.slot j) (bs ++ dead_flag a s n v x r i h j)

-- A node that has no step of its own

costless_rows : (a : Role) (s : Slot) (n : Tree) (x : NodeSpelling) → IsSpelledWherever (widest (settled_at a s)) n (Some x) → has_row_at s ≡ true →
    false ∷ unwrapped (parts_rows (parts_of n) (settled_roles (widest (settled_at a s)) (left x.slots))) ≡ unwrapped (rows n (settled_at a s))
costless_rows a s n x k h =
    let r : ℕ = parts_rows (parts_of n) (settled_roles (widest (settled_at a s)) (left x.slots)) in
    ap (λ u. u ++ unwrapped r) (ap (λ u. cond u (false ∷ []) []) (sym h) ∙ row_count s a) ∙ unwrapped_sum (has_row (settled_at a s)) r ∙ ap unwrapped (spelled_rows a s n x k)

-- Nodes that cost nothing

mutual
  unfolding marked_through parts_rows made_rows made_parts

  dead_node : {may_pass : Bool} {a : Role} {s : Slot} {n : Tree} {xs : List Step} → (h : Steps may_pass a s n xs) → (x : Round) (us : List Round) (R : List Row) (bs : List Bool) → x.may_wrap ≡ false →
      marked_through xs (marks x us (made_rows h ++ R) bs) ≡ marks x us R (bs ++ unwrapped (rows n (settled_at a s)))
  dead_node {a} {s} {n} (unspelled v i l k e) x us R bs h =
      ap (λ u. marked_through u (marks x us (row_at s n ++ R) bs)) e ∙ marked_one (Leaf v) (marks x us (row_at s n ++ R) bs) ∙ dead_leaf a s n v x us R bs i h (no_way_rows a s n k)
  dead_node {a} {s} {n} (alone v y i l k p e) x us R bs h =
      ap (λ u. marked_through u (marks x us (row_at s n ++ R) bs)) e ∙ marked_one (Leaf v) (marks x us (row_at s n ++ R) bs) ∙ dead_leaf a s n v x us R bs i h (bare_rows a s n p)
  dead_node {a} {s} {n} (around v y ys i l k q e) x us R bs h =
      let m : ℕ = has_row (settled_at a s) in
      let r : ℕ = parts_rows (parts_of n) (settled_roles (widest (settled_at a s)) (left y.slots)) in
      let t : Marks = marks x us ((row_at s n ++ made_parts q) ++ R) bs in
      ap (λ u. marked_through u t) e ∙ marked_around v ys t
      ∙ ap (λ u. marked Leave (marked_through ys (marked (Enter v) (marks x us u bs)))) (append_assoc (row_at s n) (made_parts q) R)
      ∙ ap (λ u. marked Leave (marked_through ys u)) (dead_enter a s n v x us (made_parts q ++ R) bs i h)
      ∙ ap (marked Leave) (dead_parts q x (x ∷ us) R (bs ++ unwrapped m) h)
      ∙ twice x us R bs (unwrapped m) (unwrapped r)
      ∙ ap (λ u. marks x us R (bs ++ u)) (unwrapped_sum m r ∙ ap unwrapped (spelled_rows a s n y k))
  dead_node {a} {s} {n} (costless y ys k p r f q g z) x us R bs h =
      let m : ℕ = parts_rows (parts_of n) (settled_roles (widest (settled_at a s)) (left y.slots)) in
      ap (λ u. marked_through u (marks x us ((row_at s n ++ made_parts q) ++ R) bs)) z
      ∙ ap (λ u. marked_through ys (marks x us u (bs ++ false ∷ []))) (ap (λ b. others ((cond b (row_of n ∷ []) [] ++ made_parts q) ++ R)) r)
      ∙ dead_parts q x us R (bs ++ false ∷ []) h
      ∙ twice x us R bs (false ∷ []) (unwrapped m)
      ∙ ap (λ u. marks x us R (bs ++ u)) (costless_rows a s n y k r)
  dead_node {a} {s} {n} (hidden y k p e r z) x us R bs h =
      ap (λ u. marked_through u (marks x us R bs)) z ∙ not_once x us R bs ∙ ap (λ m. marks x us R (bs ++ unwrapped m)) (sym (hidden_rows a s n r e))
  dead_node {a} {s} {n} (through y k r g q) x us R bs h =
      dead_parts q x us R bs h ∙ ap (λ m. marks x us R (bs ++ unwrapped m)) (through_rows a s n y k r)
  dead_node {a} {s} {n} (passed m l f z e i) x us R bs h =
      ap (λ u. marked_through u (marks x us R bs)) i ∙ marked_one (Passed m) (marks x us R bs) ∙ ap (λ k. marks x us R (bs ++ unwrapped k)) e

  dead_parts : {may_pass : Bool} {a : Role} {ss : List Slot} {ps : Parts} {xs : List Step} → (h : PartsSteps may_pass a ss ps xs) → (x : Round) (us : List Round) (R : List Row) (bs : List Bool) → x.may_wrap ≡ false →
      marked_through xs (marks x us (made_parts h ++ R) bs) ≡ marks x us R (bs ++ unwrapped (parts_rows ps (settled_roles a ss)))
  dead_parts over x us R bs h = not_once x us R bs
  dead_parts (skipped q) x us R bs h = dead_parts q x us R bs h
  dead_parts (unplaced {n = n}) x us R bs h = refl
  dead_parts {a} (next {s = s} {ss = ss} {n = n} {ps = ps} xs ys p q e) x us R bs h =
      let f : List Bool = unwrapped (rows n (settled_at a s)) in
      let t : Marks = marks x us ((made_rows p ++ made_parts q) ++ R) bs in
      ap (λ u. marked_through u t) e ∙ marked_append xs ys t
      ∙ ap (λ u. marked_through ys (marked_through xs (marks x us u bs))) (append_assoc (made_rows p) (made_parts q) R)
      ∙ ap (marked_through ys) (dead_node p x us (made_parts q ++ R) bs h) ∙ dead_parts q x us R (bs ++ f) h
      ∙ twice x us R bs f (unwrapped (parts_rows ps (settled_roles a ss)))
      ∙ ap (λ u. marks x us R (bs ++ u)) (unwrapped_sum (rows n (settled_at a s)) (parts_rows ps (settled_roles a ss)))

-- steps of nodes that cost nothing do the same wherever they stand
free_anywhere : (xs : List Step) (x y : Round) (us : List Round) (R : List Row) (bs : List Bool) → are_free xs ≡ true →
    marked_through xs (marks x us R bs) ≡ marks x us (marked_through xs (marks y us R bs)).rows (marked_through xs (marks y us R bs)).flags
unfolding marked_through
free_anywhere [] x y us R bs h = refl
free_anywhere (Free k z ∷ xs) x y us R bs h = free_anywhere xs x y us (others R) (bs ++ false ∷ []) h
free_anywhere (Passed m ∷ xs) x y us R bs h = free_anywhere xs x y us R (bs ++ unwrapped m) h
free_anywhere (Leaf v ∷ xs) x y us R bs h = absurd (false≢true h)
free_anywhere (Enter v ∷ xs) x y us R bs h = absurd (false≢true h)
free_anywhere (Leave ∷ xs) x y us R bs h = absurd (false≢true h)

free_steps : {may_pass : Bool} {a : Role} {ss : List Slot} {ps : Parts} {xs : List Step} → (q : PartsSteps may_pass a ss ps xs) → are_free xs ≡ true → (x : Round) (us : List Round) (R : List Row) (bs : List Bool) →
    marked_through xs (marks x us (made_parts q ++ R) bs) ≡ marks x us R (bs ++ unwrapped (parts_rows ps (settled_roles a ss)))
free_steps {a} {ss} {ps} {xs} q g x us R bs =
    let dead : Round = record { own = script; may_wrap = false } in
    free_anywhere xs x dead us (made_parts q ++ R) bs g ∙ ap (λ t. marks x us t.rows t.flags) (dead_parts q dead us R bs refl)

-- Where a node costs nothing, nothing in it is wrapped

free_node : (n : Tree) (p : Role) → is_plain p ≡ true → least n p ≡ Some 0 → unwrapped (rows n p) ≡ flags n p
free_node n p h z = sym (no_number (flags n p) 0 (ap length (sym (wrapped-numbers n p 0)) ∙ node_count n p 0 0 h z) ∙ ap unwrapped (flags-length n p))

free_parts : (ps : Parts) (xs : List Role) → all_pass is_plain xs ≡ true → parts_least ps xs ≡ Some 0 → parts_flags ps xs ≡ unwrapped (parts_rows ps xs)
free_parts ps xs p h =
    no_number (parts_flags ps xs) 0 (ap length (sym (parts-numbers ps xs 0)) ∙ parts_count ps xs 0 0 p h) ∙ ap unwrapped (parts-flags-length ps xs)

free_number : (x : Option ℕ) → is_free x ≡ true → x ≡ Some 0
free_number None h = absurd (false≢true h)
free_number (Some zero) h = refl
free_number (Some (suc m)) h = absurd (false≢true h)

capped_free : (x : Option ℕ) → capped x ≡ Some 0 → x ≡ Some 0
unfolding capped
capped_free None h = absurd (cc)
capped_free (Some m) h = let e : min m 4294967295 ≡ 0 = cc in let z : m ≡ 0 = omega (arith, e) in ap (λ k. Some k) z

given_way : (xs : List (List (Rattle.language.specs.Pieces.PieceOf Role))) (x : Option ℕ) → if_any xs x ≡ Some 0 → x ≡ Some 0
unfolding if_any
given_way [] x h = absurd (cc)
given_way (y ∷ ys) x h = h

free_inside : (n : Tree) (c : Role) (d : Costs) → is_expression c ≡ true → is_plain c ≡ true → some_way (ways c n) ≡ true → d ≡ cells_at n (expr Expression true Any) → is_free (cost_of d c) ≡ true →
    parts_flags (parts_of n) (first_roles (ways c n)) ≡ unwrapped (parts_rows (parts_of n) (first_roles (ways c n)))
unfolding cell
free_inside n (expr y i f) d h p w e z =
    let cost : cell n (cell_position (expr y i f)) ≡ Some 0 = capped_free _ (sym (counted d n Expression true Any e y i f) ∙ free_number (cost_of d (expr y i f)) z) in
    let least : parts_least (parts_of n) (first_roles (ways (expr y i f) n)) ≡ Some 0 =
    ap (parts_least (parts_of n)) (sym (cell_roles n y i f p w).1) ∙ given_way (ways (cell_position (expr y i f)) n) _ cost in
    free_parts (parts_of n) (first_roles (ways (expr y i f) n)) (parts_plain (expr y i f) n) least
free_inside n _ d h p w e z = absurd (false≢true h)

-- A node that may be wrapped

row_cells : (n : Tree) → (row_of n).costs ≡ cells_at n (expr Expression true Any)
unfolding row_of
row_cells n = refl

-- the requirements says what is known of the spelling
abbrev Says : Option Requirements → Option NodeSpelling → Type 0
Says l r = (q : Role) → meets q l ≡ fits_spelled q r

says_none : (l : Option Requirements) → l ≡ None → Says l None
says_none l e q = ap (meets q) e

says_some : (l : Option Requirements) (x : NodeSpelling) → l ≡ Some (requirements_of x.outline) → Says l (Some x)
says_some l x e q = ap (meets q) e ∙ fits_outlined q x.outline

wants_is : (n : Tree) (p : Role) (l : Option Requirements) (r : Option NodeSpelling) → is_expression p ≡ true → IsSpelledWherever p n r → Says l r → rows n p ≤ 16777216 → wants p l (row_of n).costs ≡ wants_pair n p
wants_is n p l r h k q few =
    ap (λ b. Rattle.language.specs.Layout.exceeds (cond b (cost_of (row_of n).costs p) None) (Rattle.cost_table.specs.Costs.capped_sum (Some 1) (row_of n).costs.has_in.any)) (q p)
    ∙ wanted n p r (row_of n).costs h k few (row_cells n)

abbrev living : Role → Round
living o = record { own = o; may_wrap = true }

and_true : (b : Bool) → b ≡ (b && true)
and_true true = refl
and_true false = refl

plain_inside : (b : Bool) (p : Role) → is_plain p ≡ true → is_plain (inside b p) ≡ true
plain_inside true p h = refl
plain_inside false p h = h

expression_inside : (b : Bool) (p : Role) → is_expression p ≡ true → is_expression (inside b p) ≡ true
expression_inside true p h = refl
expression_inside false p h = h

-- what stands around the parts of a node, and that its flag and theirs are its flags, where these rows are left
record Entered (R : List Row) (v : NodeStep) (o : Role) (bs : List Bool) (n : Tree) (p : Role) (r : Option NodeSpelling) : Type 0 where
  own : Role
  quiet : Bool
  round : round_of v (living o) (first_row R) ≡ record { own = own; may_wrap = meets own v.requirements && not quiet }
  free : quiet ≡ true → some_way (ways own n) ≡ true → parts_flags (parts_of n) (first_roles (ways own n)) ≡ unwrapped (parts_rows (parts_of n) (first_roles (ways own n)))
  few : parts_rows (parts_of n) (first_roles (ways (widest own) n)) ≤ 16777216
  known : IsSpelledWherever own n r
  result : (vs : List Bool) → vs ≡ (bs ++ flag_of v (living o) (first_row R)) ++ inner_flags n own → vs ≡ bs ++ flags n p

entered_row : (R : List Row) (v : NodeStep) (o : Role) (bs : List Bool) (s : Slot) (n : Tree) (r : Option NodeSpelling) → slot_of v.slot ≡ s → is_expression (settled_at o s) ≡ true → Says v.requirements r → IsSpelledWherever (settled_at o s) n r →
    is_plain (settled_at o s) ≡ true → rows n (settled_at o s) ≤ 16777216 → Entered (row_at s n ++ R) v o bs n (settled_at o s) r
entered_row R v o bs s n r i h q k pl few =
    let p : Role = settled_at o s in
    let b : Bool = wants_pair n p in
    let c : Costs = (row_of n).costs in
    let w : wants p v.requirements c ≡ b = wants_is n p v.requirements r h k q few in
    let rowed : has_row_at (slot_of v.slot) ≡ true = ap has_row_at i ∙ is_row s o ∙ h in
    let got_row : first_row (row_at s n ++ R) ≡ Some (row_of n) = first_own (has_row_at s) (row_of n) R (is_row s o ∙ h) in
    let flag : flag_of v (living o) (first_row (row_at s n ++ R)) ≡ b ∷ [] =
    (λ j. cond (rowed j) (flag_at (got_row j) (settled_at o (i j)) v.requirements ∷ []) []) ∙ ap (λ u. u ∷ []) w in
    record {
      own = inside b p;
      quiet = is_free (cost_of c (inside b p));
      round = (λ j. cond (rowed j) (round_at (got_row j) (settled_at o (i j)) v.requirements) (plain_round (settled_at o (i j)) v.requirements)) ∙ ap (λ u. around_parts (inside u p) v.requirements c) w;
      free = λ z y. free_inside n (inside b p) c (expression_inside b p h) (plain_inside b p pl) y (row_cells n) z;
      few = own_few n p (inside b p) b 16777216 h refl few;
      known = spelled_inside n p b r h k;
      result = λ vs e. own_result n p (inside b p) true b bs (bs ++ b ∷ []) vs h refl refl refl (e ∙ ap (λ u. (bs ++ u) ++ inner_flags n (inside b p)) flag);
    }

entered_plain : (R : List Row) (v : NodeStep) (o : Role) (bs : List Bool) (s : Slot) (n : Tree) (r : Option NodeSpelling) → slot_of v.slot ≡ s → is_expression (settled_at o s) ≡ false → IsSpelledWherever (settled_at o s) n r →
    rows n (settled_at o s) ≤ 16777216 → Entered R v o bs n (settled_at o s) r
entered_plain R v o bs s n r i h k few =
    let p : Role = settled_at o s in
    let rowed : has_row_at (slot_of v.slot) ≡ false = ap has_row_at i ∙ is_row s o ∙ h in
    let flag : flag_of v (living o) (first_row R) ≡ [] = λ j. cond (rowed j) (flag_at (first_row R) (settled_at o (i j)) v.requirements ∷ []) [] in
    let same : bs ++ flag_of v (living o) (first_row R) ≡ bs = ap (λ u. bs ++ u) flag ∙ append-nil bs in
    record {
      own = p;
      quiet = false;
      round = (λ j. cond (rowed j) (round_at (first_row R) (settled_at o (i j)) v.requirements) (plain_round (settled_at o (i j)) v.requirements)) ∙ ap (λ u. record { own = p; may_wrap = u }) (and_true (meets p v.requirements));
      free = λ z y. absurd (false≢true z);
      few = plain_few n p 16777216 h few;
      known = k;
      result = λ vs e. e ∙ ap (λ u. u ++ inner_flags n p) same ∙ ap (λ u. bs ++ u) (plain_flags n p true h);
    }

entered : (R : List Row) (v : NodeStep) (o : Role) (bs : List Bool) (s : Slot) (n : Tree) (r : Option NodeSpelling) → slot_of v.slot ≡ s → Says v.requirements r → IsSpelledWherever (settled_at o s) n r → is_plain (settled_at o s) ≡ true →
    rows n (settled_at o s) ≤ 16777216 → Entered (row_at s n ++ R) v o bs n (settled_at o s) r
entered R v o bs s n r i q k pl few = of (is_expression (settled_at o s)) refl
  where
    of : (b : Bool) → is_expression (settled_at o s) ≡ b → Entered (row_at s n ++ R) v o bs n (settled_at o s) r
    of true h = entered_row R v o bs s n r i h q k pl few
    of false h = entered_plain (row_at s n ++ R) v o bs s n r i h k few

either_way : (b : Bool) (bs : List Bool) → cond b bs bs ≡ bs
either_way true bs = refl
either_way false bs = refl

inner_bare : (n : Tree) (c : Role) → parts_of n ≡ none → inner_flags n c ≡ []
unfolding inner_flags parts_flags parts_rows
inner_bare n c h =
    ap (λ ps. cond (some_way (ways c n)) (parts_flags ps (first_roles (ways c n))) (unwrapped (parts_rows ps (first_roles (ways (widest c) n))))) h ∙ either_way (some_way (ways c n)) []

-- a node without parts at positions
live_leaf : (R : List Row) (v : NodeStep) (o : Role) (us : List Round) (bs : List Bool) (s : Slot) (n : Tree) (p : Role) (r : Option NodeSpelling) → slot_of v.slot ≡ s → (x : Entered (row_at s n ++ R) v o bs n p r) → inner_flags n x.own ≡ [] →
    marked (Leaf v) (marks (living o) us (row_at s n ++ R) bs) ≡ marks (living o) us R (bs ++ flags n p)
live_leaf R v o us bs s n p r i x h =
    let own : List Bool = bs ++ flag_of v (living o) (first_row (row_at s n ++ R)) in
    λ j. marks (living o) us (after_own s n v R i j) (x.result own (sym (append-nil _) ∙ ap (λ u. own ++ u) (sym h)) j)

inside_case : (F q : Bool) (P U I : List Bool) → cond (true && F) P U ≡ I → (q ≡ true → F ≡ true → P ≡ U) → cond (F && not q) P U ≡ I
inside_case true true P U I h z = sym (z refl refl) ∙ h
inside_case true false P U I h z = h
inside_case false q P U I h z = h

-- the positions of the parts of what is spelled there
here_roles : (c : Role) (n : Tree) (x : NodeSpelling) → IsSpelledWherever c n (Some x) → fits_outline c x.outline ≡ true → (some_way (ways c n) ≡ true) × (first_roles (ways c n) ≡ settled_roles c (left x.slots))
here_roles c n x k f = subst (λ u. Verdict (ways c n) (cond u (Some (settled_roles c (left x.slots))) None)) f (spelled_here c n (Some x) k)

-- parts of a node in which some may be wrapped, or none
within_parts : (xs : List Step) (o : Role) (l : Bool) (us : List Round) (Q R : List Row) (bs P U : List Bool) →
    marked_through xs (marks (record { own = o; may_wrap = false }) us Q bs) ≡ marks (record { own = o; may_wrap = false }) us R (bs ++ U) →
    (l ≡ true → marked_through xs (marks (living o) us Q bs) ≡ marks (living o) us R (bs ++ P)) →
    marked_through xs (marks (record { own = o; may_wrap = l }) us Q bs) ≡ marks (record { own = o; may_wrap = l }) us R (bs ++ cond l P U)
within_parts xs o true us Q R bs P U h k = k refl
within_parts xs o false us Q R bs P U h k = h

-- a node that has no step of its own, and no row
rowless : (s : Slot) (o : Role) → has_row_at s ≡ false → is_expression (settled_at o s) ≡ false
rowless s o h = sym (is_row s o) ∙ h

-- a node that costs nothing is wrapped nowhere
never_exceeds : (w : Option ℕ) → Rattle.language.specs.Layout.exceeds (Some 0) w ≡ false
never_exceeds None = refl
never_exceeds (Some m) = grind (arith, nat_tests)

row_widest : (s : Slot) (a : Role) → has_row_at s ≡ true → widest (settled_at a s) ≡ expr Expression true Any
row_widest (fixed (expr y i f)) a h = refl
row_widest (fixed b) a h = absurd (false≢true h)
row_widest (left_slot y) a h = refl
row_widest (lead y) a h = refl
row_widest (tail y x) a h = refl
row_widest callee a h = refl
row_widest lead_chain a h = absurd (false≢true h)
row_widest lead_pattern a h = absurd (false≢true h)

record Costless (n : Tree) (p : Role) (x : NodeSpelling) : Type 0 where
  fits : fits_outline p x.outline ≡ true
  cost : is_free (cost_of (row_of n).costs p) ≡ true
  unwrapped : wants_pair n p ≡ false

costless_node : (n : Tree) (p : Role) (x : NodeSpelling) → is_expression p ≡ true → IsSpelledWherever p n (Some x) → is_plain_outline x.outline ≡ true → role_free p x.outline.rank ≡ true → no_pairs ≡ sums_over (parts_of n) (expr Expression true Any) (left x.slots) →
    rows n p ≤ 16777216 → Costless n p x
costless_node n (expr y i f) x h k plain t e few =
    let l : Option Requirements = Some (requirements_of x.outline) in
    let b : Role = expr Expression true Any in
    let costs : (row_of n).costs ≡ fitting b x.outline no_pairs = row_cells n ∙ sym (weighed_some b n x k no_pairs (fitting b x.outline no_pairs) e refl).costs in
    let fit : meets (expr y i f) l ≡ true = plain_fits (outline_of (requirements_of x.outline)) plain (expr y i f) t in
    let cost : cost_of (row_of n).costs (expr y i f) ≡ Some 0 = ap (λ c. cost_of c (expr y i f)) costs ∙ cost_free x.outline plain b y i f t in
    record {
      fits = plain_fits x.outline plain (expr y i f) t;
      cost = ap is_free cost;
      unwrapped = sym (wants_is n (expr y i f) l (Some x) refl k (says_some l x refl) few)
          ∙ (λ j. Rattle.language.specs.Layout.exceeds (cond (fit j) (cost j) None) (Rattle.cost_table.specs.Costs.capped_sum (Some 1) (row_of n).costs.has_in.any))
          ∙ never_exceeds (Rattle.cost_table.specs.Costs.capped_sum (Some 1) (row_of n).costs.has_in.any);
    }
costless_node n _ x h k plain t e few = absurd (false≢true h)

costless_flags : (a o : Role) (s : Slot) (n : Tree) (x : NodeSpelling) → IsSpelledWherever (settled_at o s) n (Some x) → is_plain_outline x.outline ≡ true → has_row_at s ≡ true → slot_free s x.outline.rank ≡ true →
    no_pairs ≡ sums_over (parts_of n) (widest (settled_at a s)) (left x.slots) → is_plain (settled_at o s) ≡ true → rows n (settled_at o s) ≤ 16777216 →
    false ∷ unwrapped (parts_rows (parts_of n) (settled_roles (widest (settled_at a s)) (left x.slots))) ≡ flags n (settled_at o s)
costless_flags a o s n x k plain r t e pl few =
    let p : Role = settled_at o s in
    let ss : List Slot = left x.slots in
    let h : is_expression p ≡ true = sym (is_row s o) ∙ r in
    let c : Costless n p x = costless_node n p x h k plain (settled_free s x.outline.rank t o) (e ∙ ap (λ b. sums_over (parts_of n) b ss) (row_widest s a r)) few in
    let g = here_roles p n x k c.fits in
    let P : List Bool = parts_flags (parts_of n) (settled_roles p ss) in
    let U : List Bool = unwrapped (parts_rows (parts_of n) (settled_roles p ss)) in
    let quiet : P ≡ U = subst (λ rs. parts_flags (parts_of n) rs ≡ unwrapped (parts_rows (parts_of n) rs)) g.1 (free_inside n p (row_of n).costs h pl g.0 (row_cells n) c.cost) in
    let inner : U ≡ inner_flags n p = sym quiet ∙ ap (λ u. cond (true && u) P U) (sym c.fits) ∙ inner_some p n x true k in
    let b : Bool = wants_pair n p in
    ap (λ u. false ∷ u) (ap unwrapped (parts-rows (parts_of n) (widest (settled_at a s)) p ss) ∙ inner)
    ∙ (λ j. sym c.unwrapped j ∷ inner_flags n (inside (sym c.unwrapped j) p))
    ∙ own_result n p (inside b p) true b [] (b ∷ []) (b ∷ inner_flags n (inside b p)) h refl refl refl refl

hidden_flags : (o : Role) (s : Slot) (n : Tree) → has_row_at s ≡ false → parts_of n ≡ none → flags n (settled_at o s) ≡ []
hidden_flags o s n h e = sym (plain_flags n (settled_at o s) true (rowless s o h)) ∙ inner_bare n (settled_at o s) e

settled_fits : (s : Slot) (o : Role) (x : Outline) → is_settled_slot s ≡ true → fits_outline (settled_at o s) x ≡ true
settled_fits (fixed (expr y i f)) o x h = absurd (false≢true h)
settled_fits (fixed (chain_part f)) o x h = absurd (false≢true h)
settled_fits (fixed (pattern b f)) o x h = absurd (false≢true h)
settled_fits (fixed a) o x h = refl
settled_fits (left_slot y) o x h = absurd (false≢true h)
settled_fits (lead y) o x h = absurd (false≢true h)
settled_fits (tail y f) o x h = absurd (false≢true h)
settled_fits callee o x h = absurd (false≢true h)
settled_fits lead_chain o x h = absurd (false≢true h)
settled_fits lead_pattern o x h = absurd (false≢true h)

fixed_same : (s : Slot) (a b : Role) → is_fixed s ≡ true → settled_at a s ≡ settled_at b s
fixed_same (fixed r) a b h = refl
fixed_same (left_slot y) a b h = absurd (false≢true h)
fixed_same (lead y) a b h = absurd (false≢true h)
fixed_same (tail y f) a b h = absurd (false≢true h)
fixed_same callee a b h = absurd (false≢true h)
fixed_same lead_chain a b h = absurd (false≢true h)
fixed_same lead_pattern a b h = absurd (false≢true h)

fixed_roles : (ss : List Slot) (a b : Role) → are_fixed ss ≡ true → settled_roles a ss ≡ settled_roles b ss
fixed_roles [] a b h = refl
fixed_roles (s ∷ ss) a b h = let p = and_parts (is_fixed s) (are_fixed ss) h in λ j. fixed_same s a b p.0 j ∷ fixed_roles ss a b p.1 j

-- what is known of such a node's parts, as they stand in the node above
record Through (o : Role) (n : Tree) (p : Role) (ss : List Slot) : Type 0 where
  plain : all_pass is_plain (settled_roles o ss) ≡ true
  few : parts_rows (parts_of n) (settled_roles o ss) ≤ 16777216
  result : parts_flags (parts_of n) (settled_roles o ss) ≡ flags n p

through_parts : (o : Role) (s : Slot) (n : Tree) (x : NodeSpelling) → IsSpelledWherever (settled_at o s) n (Some x) → is_settled_slot s ≡ true → are_fixed (left x.slots) ≡ true →
    rows n (settled_at o s) ≤ 16777216 → Through o n (settled_at o s) (left x.slots)
through_parts o s n x k r g few =
    let p : Role = settled_at o s in
    let ss : List Slot = left x.slots in
    let h : is_expression p ≡ false = rowless s o (settled_rowless s r) in
    let fit : fits_outline p x.outline ≡ true = settled_fits s o x.outline r in
    let same : settled_roles p ss ≡ settled_roles o ss = fixed_roles ss p o g in
    let U : List Bool = unwrapped (parts_rows (parts_of n) (settled_roles p ss)) in
    record {
      plain = subst (λ rs. all_pass is_plain rs ≡ true) ((here_roles p n x k fit).1 ∙ same) (parts_plain p n);
      few = subst (λ m. m ≤ 16777216) (rows_below p n x k ∙ ap (parts_rows (parts_of n)) same) (plain_few n p 16777216 h few);
      result = ap (parts_flags (parts_of n)) (sym same) ∙ ap (λ u. cond (true && u) (parts_flags (parts_of n) (settled_roles p ss)) U) (sym fit) ∙ inner_some p n x true k ∙ plain_flags n p true h;
    }

mutual
  unfolding marked_through parts_flags parts_rows made_rows made_parts

  live_node : {may_pass : Bool} {a : Role} {s : Slot} {n : Tree} {xs : List Step} → (h : Steps may_pass a s n xs) → (o : Role) (us : List Round) (R : List Row) (bs : List Bool) → is_plain (settled_at o s) ≡ true → rows n (settled_at o s) ≤ 16777216 →
      marked_through xs (marks (living o) us (made_rows h ++ R) bs) ≡ marks (living o) us R (bs ++ flags n (settled_at o s))
  live_node {a} {s} {n} (unspelled v i l k e) o us R bs pl few =
      let x : Entered (row_at s n ++ R) v o bs n (settled_at o s) None = entered R v o bs s n None i.slot (says_none v.requirements l) (spelled_at a o s n None k) pl few in
      ap (λ u. marked_through u (marks (living o) us (row_at s n ++ R) bs)) e ∙ marked_one (Leaf v) (marks (living o) us (row_at s n ++ R) bs)
      ∙ live_leaf R v o us bs s n (settled_at o s) None i.slot x (sym (inner_none x.own n true x.known))
  live_node {a} {s} {n} (alone v y i l k p e) o us R bs pl few =
      let x : Entered (row_at s n ++ R) v o bs n (settled_at o s) (Some y) = entered R v o bs s n (Some y) i.slot (says_some v.requirements y l) (spelled_at a o s n (Some y) k) pl few in
      ap (λ u. marked_through u (marks (living o) us (row_at s n ++ R) bs)) e ∙ marked_one (Leaf v) (marks (living o) us (row_at s n ++ R) bs)
      ∙ live_leaf R v o us bs s n (settled_at o s) (Some y) i.slot x (inner_bare n x.own p)
  live_node {a} {s} {n} (around v y ys i l k q e) o us R bs pl few =
      let Q : List Row = row_at s n ++ (made_parts q ++ R) in
      let t : Marks = marks (living o) us Q bs in
      let x : Entered Q v o bs n (settled_at o s) (Some y) = entered (made_parts q ++ R) v o bs s n (Some y) i.slot (says_some v.requirements y l) (spelled_at a o s n (Some y) k) pl few in
      let gs : List Bool = bs ++ flag_of v (living o) (first_row Q) in
      let F : Bool = fits_outline x.own y.outline in
      let fit : meets x.own v.requirements ≡ F = says_some v.requirements y l x.own in
      let P : List Bool = parts_flags (parts_of n) (settled_roles x.own (left y.slots)) in
      let U : List Bool = unwrapped (parts_rows (parts_of n) (settled_roles x.own (left y.slots))) in
      let free : x.quiet ≡ true → F ≡ true → P ≡ U = λ z f. let g = here_roles x.own n y x.known f in subst (λ rs. parts_flags (parts_of n) rs ≡ unwrapped (parts_rows (parts_of n) rs)) g.1 (x.free z g.0) in
      let whole : cond (F && not x.quiet) P U ≡ inner_flags n x.own = inside_case F x.quiet P U (inner_flags n x.own) (inner_some x.own n y true x.known) free in
      ap (λ u. marked_through u (marks (living o) us ((row_at s n ++ made_parts q) ++ R) bs)) e
      ∙ ap (λ u. marked_through (Enter v ∷ (ys ++ Leave ∷ [])) (marks (living o) us u bs)) (append_assoc (row_at s n) (made_parts q) R)
      ∙ marked_around v ys t
      ∙ (λ j. marked Leave (marked_through ys (marks ((x.round ∙ ap (λ u. record { own = x.own; may_wrap = u && not x.quiet }) fit) j) (living o ∷ us) (after_own s n v (made_parts q ++ R) i.slot j) gs)))
      ∙ ap (marked Leave) (within_parts ys x.own (F && not x.quiet) (living o ∷ us) (made_parts q ++ R) R gs P U
      (dead_parts q (record { own = x.own; may_wrap = false }) (living o ∷ us) R gs refl
      ∙ ap (λ m. marks (record { own = x.own; may_wrap = false }) (living o ∷ us) R (gs ++ unwrapped m)) (parts-rows (parts_of n) (widest (settled_at a s)) x.own (left y.slots)))
      (λ z. live_parts q x.own (living o ∷ us) R gs
      (subst (λ rs. all_pass is_plain rs ≡ true) (here_roles x.own n y x.known (and_parts F (not x.quiet) z).0).1 (parts_plain x.own n))
      (subst (λ m. m ≤ 16777216) (rows_below x.own n y x.known) x.few)))
      ∙ ap (marks (living o) us R) (x.result (gs ++ cond (F && not x.quiet) P U) (ap (λ u. gs ++ u) whole))
  live_node {a} {s} {n} (costless x ys k p r f q g z) o us R bs pl few =
      let m : ℕ = parts_rows (parts_of n) (settled_roles (widest (settled_at a s)) (left x.slots)) in
      ap (λ u. marked_through u (marks (living o) us ((row_at s n ++ made_parts q) ++ R) bs)) z
      ∙ ap (λ u. marked_through ys (marks (living o) us u (bs ++ false ∷ []))) (ap (λ b. others ((cond b (row_of n ∷ []) [] ++ made_parts q) ++ R)) r)
      ∙ free_steps q g (living o) us R (bs ++ false ∷ [])
      ∙ twice (living o) us R bs (false ∷ []) (unwrapped m)
      ∙ ap (λ u. marks (living o) us R (bs ++ u)) (costless_flags a o s n x (spelled_at a o s n (Some x) k) p r f (free_sums q g) pl few)
  live_node {a} {s} {n} (hidden x k p e r z) o us R bs pl few =
      ap (λ u. marked_through u (marks (living o) us R bs)) z ∙ not_once (living o) us R bs ∙ ap (λ u. marks (living o) us R (bs ++ u)) (sym (hidden_flags o s n r e))
  live_node {a} {s} {n} (through x k r g q) o us R bs pl few =
      let y : Through o n (settled_at o s) (left x.slots) = through_parts o s n x (spelled_at a o s n (Some x) k) r g few in
      live_parts q o us R bs y.plain y.few ∙ ap (λ u. marks (living o) us R (bs ++ u)) y.result
  live_node {a} {s} {n} (passed m l f z e i) o us R bs pl few =
      let same : settled_at a s ≡ settled_at o s = fixed_same s a o f in
      ap (λ u. marked_through u (marks (living o) us R bs)) i ∙ marked_one (Passed m) (marks (living o) us R bs)
      ∙ ap (λ u. marks (living o) us R (bs ++ u)) (ap unwrapped (e ∙ ap (rows n) same) ∙ free_node n (settled_at o s) pl (ap (least n) (sym same) ∙ z))

  live_parts : {may_pass : Bool} {a : Role} {ss : List Slot} {ps : Parts} {xs : List Step} → (h : PartsSteps may_pass a ss ps xs) → (o : Role) (us : List Round) (R : List Row) (bs : List Bool) → all_pass is_plain (settled_roles o ss) ≡ true →
      parts_rows ps (settled_roles o ss) ≤ 16777216 → marked_through xs (marks (living o) us (made_parts h ++ R) bs) ≡ marks (living o) us R (bs ++ parts_flags ps (settled_roles o ss))
  live_parts over o us R bs pl few = not_once (living o) us R bs
  live_parts (skipped q) o us R bs pl few = live_parts q o us R bs pl few
  live_parts (unplaced {n = n}) o us R bs pl few = refl
  live_parts {a} (next {s = s} {ss = ss} {n = n} {ps = ps} xs ys p q e) o us R bs pl few =
      let t : Marks = marks (living o) us ((made_rows p ++ made_parts q) ++ R) bs in
      let f : List Bool = flags n (settled_at o s) in
      ap (λ u. marked_through u t) e ∙ marked_append xs ys t
      ∙ ap (λ u. marked_through ys (marked_through xs (marks (living o) us u bs))) (append_assoc (made_rows p) (made_parts q) R)
      ∙ ap (marked_through ys) (live_node p o us (made_parts q ++ R) bs (and_parts _ _ pl).0 (omega (arith, few)))
      ∙ live_parts q o us R (bs ++ f) (and_parts _ _ pl).1 (omega (arith, few))
      ∙ twice (living o) us R bs f (parts_flags ps (settled_roles o ss))

-- A script

pub script_flags : {may_pass : Bool} (T : List Row) (n : Tree) (xs : List Step) → (h : Steps may_pass script (fixed script) n xs) → T ≡ made_rows h → rows n script ≤ 16777216 → (marked_through xs (at_the_start T)).flags ≡ flags n script
script_flags T n xs h e few = ap (λ R. (marked_through xs (at_the_start R)).flags) (e ∙ sym (append-nil (made_rows h))) ∙ ap (λ t. t.flags) (live_node h script [] [] [] refl few)
