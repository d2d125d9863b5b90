-- One step back, as the planner keeps sums and rows.
use Rattle.std.proofs.Common.{◌≡◌, ℕ, ◌+◌, ◌-◌, ◌<◌, true, false, cond, List, [], ◌∷◌, ◌++◌, reverse, length, drop, take, get_or, Option, Some, None, Ok, Err, refl, sym, ap, ◌∙◌, subst, arith, drop-cons}
use Rattle.std.specs.Prelude.{Result, OnOk, MatchOption, option_to_list, All}
use Rattle.std.proofs.lemmas.List.Elements.{All-nil, All-cons, All-head, All-tail}
use Rattle.spelling_table.specs.Outlines.{role_of, slot_of}
use Rattle.tree.specs.declared.kind.Kind.{Kind}
use Rattle.language.specs.declared.Rank.{Rank}
use Rattle.cost_table.specs.declared.costs.Costs as own
use Rattle.paren_planner.specs.declared.open_sums.OpenSums.{OpenSums}
use Rattle.cost_table.specs.declared.table.Row.{Row}
use Rattle.cost_table.specs.declared.node_costs.NodeCosts.{NodeCosts}
use Rattle.paren_planner.specs.declared.steps.NodeStep.{NodeStep}
use Rattle.paren_planner.specs.declared.steps.Step.{Step}
use Rattle.paren_planner.specs.declared.steps.Step.TheVariants.{Free, Passed, Leaf, Enter, Leave}
use Rattle.cost_table.specs.Costs.{sums, no_pairs, IsHeld}
use Rattle.paren_planner.specs.Pending.{here_of, outer_of, shown_sums, AreHeld}
use Rattle.cost_table.specs.Rows.{row_with}
use Rattle.cost_table.specs.Weighed.{uses}
use Rattle.paren_planner.specs.Steps.{free_row, weighed_of, used, row_of_visit, has_row_at, Sums, joined, taken, taken_from, at_the_end, innermost, others}
use Rattle.cost_table.proofs.Sums.{zero-zero, sums-zero}
use Rattle.paren_planner.proofs.Stacks.{row_pushed}

pub none_popped : {X : Type 0} (xs ys : List X) (r : Option X) (n : ℕ) (P : Type 0) (Q : X → Type 0) → xs ≡ ys ++ option_to_list r → ys ≡ take (n - 1) xs → MatchOption r ((n ≡ 0) × P) Q → r ≡ None → xs ≡ []
none_popped xs ys None n P Q e t m h = e ∙ ap (λ u. u ++ []) (t ∙ ap (λ k. take (k - 1) xs) m.0)
none_popped xs ys (Some x) n P Q e t m h = absurd (cc)

-- What is added up is a sum

pub innermost_held : (cs : List own.Costs) → All IsHeld cs → IsHeld (innermost cs)
innermost_held [] h = zero-zero
innermost_held (c ∷ cs) h = All-head IsHeld c cs h

others_held : (cs : List own.Costs) → All IsHeld cs → All IsHeld (others cs)
others_held [] h = All-nil IsHeld
others_held (c ∷ cs) h = All-tail IsHeld c cs h

taken_held : (x : Step) (t : Sums) → AreHeld t → AreHeld (taken x t)
taken_held (Free k z) t h = record { here = h.here; outer = h.outer }
taken_held (Passed m) t h = h
taken_held (Leaf v) t h = record { here = sums-zero t.here (used v no_pairs); outer = h.outer }
taken_held (Enter v) t h = record { here = sums-zero (innermost t.outer) (used v t.here); outer = others_held t.outer h.outer }
taken_held Leave t h = record { here = zero-zero; outer = All-cons IsHeld t.here t.outer h.here h.outer }

pub all_held : (xs : List Step) → AreHeld (taken_from xs at_the_end)
unfolding taken_from
all_held [] = record { here = zero-zero; outer = All-nil IsHeld }
all_held (x ∷ xs) = taken_held x (taken_from xs at_the_end) (all_held xs)

-- A node

pub node_joined : (v : NodeStep) (c : own.Costs) (w : NodeCosts) (p q : OpenSums) (old new : List Row) → w ≡ weighed_of v c → here_of q ≡ sums (here_of p) (uses (role_of v.above) (slot_of v.slot) w) → outer_of q ≡ outer_of p
    → new ≡ old ++ cond (has_row_at (slot_of v.slot)) (row_with v.kind w.costs ∷ []) [] → shown_sums q new ≡ joined v c (shown_sums p old)
node_joined v c w p q old new k h o r =
    let here : here_of q ≡ sums (here_of p) (used v c) = h ∙ ap (λ u. sums (here_of p) (uses (role_of v.above) (slot_of v.slot) u)) k in
    let rows : reverse new ≡ row_of_visit v c ++ reverse old =
    row_pushed (has_row_at (slot_of v.slot)) (row_with v.kind w.costs) old new r ∙ ap (λ u. cond (has_row_at (slot_of v.slot)) (row_with v.kind u.costs ∷ []) [] ++ reverse old) k in
    λ j. record { here = here j; outer = o j; rows = rows j }

-- one that costs nothing in the node above
pub free_joined : {A E : Type 0} (q : Result A E) (v : NodeStep) (p : OpenSums) (old new : List Row) (x : Row) → IsHeld (here_of p) → used v no_pairs ≡ no_pairs → row_of_visit v no_pairs ≡ cond (has_row_at (slot_of v.slot)) (x ∷ []) []
    → OnOk q (new ≡ old ++ cond (has_row_at (slot_of v.slot)) (x ∷ []) []) → OnOk q (shown_sums p new ≡ joined v no_pairs (shown_sums p old))
free_joined (Ok a) v p old new x h u e r =
    let here : here_of p ≡ sums (here_of p) (used v no_pairs) = sym h ∙ ap (sums (here_of p)) (sym u) in
    let rows : reverse new ≡ row_of_visit v no_pairs ++ reverse old = row_pushed (has_row_at (slot_of v.slot)) x old new r ∙ ap (λ rs. rs ++ reverse old) (sym e) in
    λ j. record { here = here j; outer = outer_of p; rows = rows j }
free_joined (Err a) v p old new x h u e r = r

-- A step

-- what was done for one step was done for this one
pub step_taken : {A E : Type 0} (q : Result A E) (x y : Step) (t u : Sums) → x ≡ y → OnOk q (t ≡ taken y u) → OnOk q (t ≡ taken x u)
step_taken (Ok a) x y t u i e = e ∙ ap (λ z. taken z u) (sym i)
step_taken (Err a) x y t u i e = e

pub free_taken : {A E : Type 0} (r : Result A E) (x : Step) (k : Kind) (z : Rank) (p : OpenSums) (old new : List Row) → x ≡ Free k z → OnOk r (new ≡ old ++ free_row k z ∷ []) → OnOk r (shown_sums p new ≡ taken x (shown_sums p old))
free_taken (Ok a) x k z p old new i e = (λ j. record { here = here_of p; outer = outer_of p; rows = row_pushed true (free_row k z) old new e j }) ∙ ap (λ y. taken y (shown_sums p old)) (sym i)
free_taken (Err a) x k z p old new i e = e

pub passed_taken : (x : Step) (m : ℕ) (t : Sums) → x ≡ Passed m → t ≡ taken x t
passed_taken x m t i = ap (λ y. taken y t) (sym i)

pub parent_taken : {A E : Type 0} (r : Result A E) (v : NodeStep) (c : own.Costs) (p q : OpenSums) (t : Sums) (old : List Row) → c ≡ here_of p → here_of q ≡ innermost (outer_of p) → outer_of q ≡ others (outer_of p)
    → OnOk r (t ≡ joined v c (shown_sums q old)) → OnOk r (t ≡ taken (Enter v) (shown_sums p old))
parent_taken (Ok a) v c p q t old k h o e = e ∙ (λ j. joined v (k j) (record { here = h j; outer = o j; rows = reverse old }))
parent_taken (Err a) v c p q t old k h o e = e

pub leave_taken : {A E : Type 0} (r : Result A E) (x : Step) (p q : OpenSums) (rs : List Row) → x ≡ Leave → OnOk r (here_of q ≡ no_pairs) → OnOk r (outer_of q ≡ here_of p ∷ outer_of p) → OnOk r (shown_sums q rs ≡ taken x (shown_sums p rs))
leave_taken (Ok a) x p q rs i h o = (λ j. record { here = h j; outer = o j; rows = reverse rs }) ∙ ap (λ z. taken z (shown_sums p rs)) (sym i)
leave_taken (Err a) x p q rs i h o = h

pub taken_past : (xs : List Step) (k : ℕ) (t : Sums) → drop k xs ≡ [] → taken_from (drop k xs) t ≡ t
unfolding taken_from
taken_past xs k t h = ap (λ ys. taken_from ys t) h

-- the step at a place, before those behind it
pub taken_at : (xs : List Step) (k m : ℕ) (x : Step) (t : Sums) → k + 1 ≡ m → k < length xs → x ≡ get_or xs k x → taken_from (drop k xs) t ≡ taken x (taken_from (drop m xs) t)
unfolding taken_from
taken_at xs k m x t e l h =
    let n : k + 1 ≡ Rattle.std.proofs.Common.suc k = omega arith in
    ap (λ ys. taken_from ys t) (drop-cons xs k x l) ∙ ap (λ y. taken y (taken_from (drop (Rattle.std.proofs.Common.suc k) xs) t)) (sym h) ∙ ap (λ i. taken x (taken_from (drop i xs) t)) (sym n ∙ e)
