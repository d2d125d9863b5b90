-- One step on, as vectors have it.
use Rattle.std.proofs.Common.{◌≡◌, ℕ, zero, suc, ◌+◌, ◌<◌, true, false, cond, List, [], ◌∷◌, ◌++◌, reverse, length, drop, get_or, Option, None, refl, sym, ap, ◌∙◌, arith, drop-cons}
use Rattle.std.specs.Prelude.{Result, OnOk, Ok, Err, option_to_list, unwrap_or, map, slice_get}
use Rattle.tree.specs.declared.kind.Kind.{Kind}
use Rattle.language.specs.declared.Rank.{Rank}
use Rattle.spelling_table.specs.Outlines.{role_of, slot_of}
use Rattle.paren_planner.specs.declared.steps.NodeStep.{NodeStep}
use Rattle.paren_planner.specs.declared.steps.Step.{Step}
use Rattle.paren_planner.specs.declared.steps.Step.TheVariants.{Free, Passed, Leaf, Enter, Leave}
use Rattle.cost_table.specs.declared.table.Row.{Row}
use Rattle.paren_planner.specs.declared.wrap_pass.RowFlags.{RowFlags}
use Rattle.paren_planner.specs.declared.wrap_pass.WrapContext.{WrapContext}
use Rattle.paren_planner.specs.Steps.{has_row_at, stands_at, others}
use Rattle.paren_planner.specs.Wrapped.{unwrapped}
use Rattle.paren_planner.specs.Marked.{Round, round, Marks, marked, marked_through, shown_marks, first_row, flag_of, round_of, rows_after, flag_at, round_at, plain_round}
use Rattle.paren_planner.proofs.Stacks.{popped_round, popped_rounds, pushed_round}

-- The rows of the table from the next on

pub first_dropped : (T : List Row) (k : ℕ) → first_row (drop k T) ≡ slice_get T k
first_dropped [] zero = refl
first_dropped [] (suc k) = refl
first_dropped (r ∷ T) zero = refl
first_dropped (r ∷ T) (suc k) = first_dropped T k

next_row : (T : List Row) (k : ℕ) → drop (suc k) T ≡ others (drop k T)
next_row [] zero = refl
next_row [] (suc k) = refl
next_row (r ∷ T) zero = refl
next_row (r ∷ T) (suc k) = next_row T k

pub next_dropped : (T : List Row) (k : ℕ) → drop (k + 1) T ≡ others (drop k T)
next_dropped T k = let n : k + 1 ≡ suc k = omega arith in ap (λ i. drop i T) n ∙ next_row T k

-- A step

pub free_marked : {A E : Type 0} (q : Result A E) (T : List Row) (x : Step) (k : Kind) (z : Rank) (a : WrapContext) (o : List WrapContext) (old new : RowFlags) → x ≡ Free k z → OnOk q (new.wraps.flags.items ≡ old.wraps.flags.items ++ false ∷ []) →
    OnOk q (drop new.next_row T ≡ others (drop old.next_row T)) → OnOk q (shown_marks T a o new ≡ marked x (shown_marks T a o old))
free_marked (Ok u) T x k z a o old new i e r = (λ j. record { here = round a; outer = reverse (map round o); rows = r j; flags = e j }) ∙ ap (λ y. marked y (shown_marks T a o old)) (sym i)
free_marked (Err u) T x k z a o old new i e r = e

pub passed_marked : {A E : Type 0} (q : Result A E) (T : List Row) (x : Step) (m : ℕ) (a : WrapContext) (o : List WrapContext) (old new : RowFlags) → x ≡ Passed m → OnOk q (new.wraps.flags.items ≡ old.wraps.flags.items ++ unwrapped m) →
    new.next_row ≡ old.next_row → OnOk q (shown_marks T a o new ≡ marked x (shown_marks T a o old))
passed_marked (Ok u) T x m a o old new i e r = (λ j. record { here = round a; outer = reverse (map round o); rows = drop (r j) T; flags = e j }) ∙ ap (λ y. marked y (shown_marks T a o old)) (sym i)
passed_marked (Err u) T x m a o old new i e r = e

leaf_marked : (T : List Row) (x : Step) (v : NodeStep) (a : WrapContext) (o : List WrapContext) (old new : RowFlags) → x ≡ Leaf v → new.wraps.flags.items ≡ old.wraps.flags.items ++ flag_of v (round a) (slice_get T old.next_row) →
    drop new.next_row T ≡ rows_after v (drop old.next_row T) → shown_marks T a o new ≡ marked x (shown_marks T a o old)
leaf_marked T x v a o old new i e r =
    (λ j. record { here = round a; outer = reverse (map round o); rows = r j; flags = (e ∙ ap (λ u. old.wraps.flags.items ++ flag_of v (round a) u) (sym (first_dropped T old.next_row))) j }) ∙ ap (λ y. marked y (shown_marks T a o old)) (sym i)

enter_marked : (T : List Row) (x : Step) (v : NodeStep) (a b : WrapContext) (o p : List WrapContext) (old new : RowFlags) → x ≡ Enter v → p ≡ o ++ a ∷ [] → round b ≡ round_of v (round a) (slice_get T old.next_row) →
    new.wraps.flags.items ≡ old.wraps.flags.items ++ flag_of v (round a) (slice_get T old.next_row) → drop new.next_row T ≡ rows_after v (drop old.next_row T) → shown_marks T b p new ≡ marked x (shown_marks T a o old)
enter_marked T x v a b o p old new i k h e r =
    let first : slice_get T old.next_row ≡ first_row (drop old.next_row T) = sym (first_dropped T old.next_row) in
    (λ j. record {
      here = (h ∙ ap (round_of v (round a)) first) j;
      outer = pushed_round o p a k j;
      rows = r j;
      flags = (e ∙ ap (λ u. old.wraps.flags.items ++ flag_of v (round a) u) first) j;
    })
    ∙ ap (λ y. marked y (shown_marks T a o old)) (sym i)

pub leave_marked : (T : List Row) (x : Step) (a b : WrapContext) (o p : List WrapContext) (q : Option WrapContext) (w : RowFlags) → x ≡ Leave → o ≡ p ++ option_to_list q → (q ≡ None → o ≡ []) → b ≡ unwrap_or q a → shown_marks T b p w ≡ marked x (shown_marks T a o w)
leave_marked T x a b o p q w i e n u =
    (λ j. record { here = (ap round u ∙ sym (popped_round o p q a e n)) j; outer = sym (popped_rounds o p q e n) j; rows = drop w.next_row T; flags = w.wraps.flags.items }) ∙ ap (λ y. marked y (shown_marks T a o w)) (sym i)

-- the step at a place, before those behind it
pub marked_at : (xs : List Step) (k : ℕ) (x : Step) (t : Marks) → k < length xs → x ≡ get_or xs k x → marked_through (drop k xs) t ≡ marked_through (drop (k + 1) xs) (marked x t)
unfolding marked_through
marked_at xs k x t l h =
    let n : suc k ≡ k + 1 = omega arith in
    ap (λ ys. marked_through ys t) (drop-cons xs k x l) ∙ ap (λ y. marked_through (drop (suc k) xs) (marked y t)) (sym h) ∙ ap (λ i. marked_through (drop i xs) (marked x t)) n

pub marked_past : (xs : List Step) (k : ℕ) (t : Marks) → drop k xs ≡ [] → marked_through (drop k xs) t ≡ t
unfolding marked_through
marked_past xs k t h = ap (λ ys. marked_through ys t) h

-- A node where none may be wrapped

dead_flag : (v : NodeStep) (x : Round) (r : Option Row) → x.may_wrap ≡ false → cond (has_row_at (slot_of v.slot)) (false ∷ []) [] ≡ flag_of v x r
dead_flag v x r h = λ j. cond (has_row_at (slot_of v.slot)) (cond (sym h j) (flag_at r (stands_at x.own v) v.requirements) false ∷ []) []

dead_round : (v : NodeStep) (x : Round) (r : Option Row) → x.may_wrap ≡ false → x ≡ round_of v x r
dead_round v x r h = sym (ap (λ b. cond b (cond (has_row_at (slot_of v.slot)) (round_at r (stands_at x.own v) v.requirements) (plain_round (stands_at x.own v) v.requirements)) x) h)

pub dead_leaf : {A E : Type 0} (q : Result A E) (T : List Row) (x : Step) (v : NodeStep) (a : WrapContext) (o : List WrapContext) (old new : RowFlags) → a.may_wrap ≡ false → x ≡ Leaf v → OnOk q (new.wraps.flags.items ≡ old.wraps.flags.items ++ cond (has_row_at (slot_of v.slot)) (false ∷ []) []) →
    OnOk q (drop new.next_row T ≡ rows_after v (drop old.next_row T)) → OnOk q (shown_marks T a o new ≡ marked x (shown_marks T a o old))
dead_leaf (Ok u) T x v a o old new h i e r = leaf_marked T x v a o old new i (e ∙ ap (λ bs. old.wraps.flags.items ++ bs) (dead_flag v (round a) (slice_get T old.next_row) h)) r
dead_leaf (Err u) T x v a o old new h i e r = e

pub dead_parent : {A E : Type 0} (q : Result A E) (T : List Row) (x : Step) (v : NodeStep) (a : WrapContext) (o p : List WrapContext) (old new : RowFlags) → a.may_wrap ≡ false → x ≡ Enter v → p ≡ o ++ a ∷ [] → OnOk q (new.wraps.flags.items ≡ old.wraps.flags.items ++ cond (has_row_at (slot_of v.slot)) (false ∷ []) []) →
    OnOk q (drop new.next_row T ≡ rows_after v (drop old.next_row T)) → OnOk q (shown_marks T a p new ≡ marked x (shown_marks T a o old))
dead_parent (Ok u) T x v a o p old new h i k e r =
    enter_marked T x v a a o p old new i k (dead_round v (round a) (slice_get T old.next_row) h) (e ∙ ap (λ bs. old.wraps.flags.items ++ bs) (dead_flag v (round a) (slice_get T old.next_row) h)) r
dead_parent (Err u) T x v a o p old new h i k e r = e

-- A node that may be wrapped

living_flag : (v : NodeStep) (x : Round) (r : Option Row) → x.may_wrap ≡ true → cond (has_row_at (slot_of v.slot)) (flag_at r (stands_at x.own v) v.requirements ∷ []) [] ≡ flag_of v x r
living_flag v x r h = λ j. cond (has_row_at (slot_of v.slot)) (cond (sym h j) (flag_at r (stands_at x.own v) v.requirements) false ∷ []) []

pub living_leaf : {A E : Type 0} (q : Result A E) (T : List Row) (x : Step) (v : NodeStep) (a : WrapContext) (o : List WrapContext) (old new : RowFlags) → a.may_wrap ≡ true → x ≡ Leaf v →
    OnOk q (new.wraps.flags.items ≡ old.wraps.flags.items ++ cond (has_row_at (slot_of v.slot)) (flag_at (slice_get T old.next_row) (stands_at (role_of a.own) v) v.requirements ∷ []) []) →
    OnOk q (drop new.next_row T ≡ rows_after v (drop old.next_row T)) → OnOk q (shown_marks T a o new ≡ marked x (shown_marks T a o old))
living_leaf (Ok u) T x v a o old new h i e r = leaf_marked T x v a o old new i (e ∙ ap (λ bs. old.wraps.flags.items ++ bs) (living_flag v (round a) (slice_get T old.next_row) h)) r
living_leaf (Err u) T x v a o old new h i e r = e

pub living_parent : {A E : Type 0} (q : Result A E) (T : List Row) (x : Step) (v : NodeStep) (a b : WrapContext) (o p : List WrapContext) (old new : RowFlags) → x ≡ Enter v → p ≡ o ++ a ∷ [] → OnOk q (round b ≡ round_of v (round a) (slice_get T old.next_row)) →
    OnOk q (new.wraps.flags.items ≡ old.wraps.flags.items ++ flag_of v (round a) (slice_get T old.next_row)) → OnOk q (drop new.next_row T ≡ rows_after v (drop old.next_row T)) → OnOk q (shown_marks T b p new ≡ marked x (shown_marks T a o old))
living_parent (Ok u) T x v a b o p old new i k y e r = enter_marked T x v a b o p old new i k y e r
living_parent (Err u) T x v a b o p old new i k y e r = e
