-- Backwards over the steps of a walk: what is added up is what the definition's nodes cost, and the rows are theirs.
use Rattle.std.proofs.Common.{◌≡◌, ℕ, ◌+◌, Bool, true, false, cond, min, List, [], ◌∷◌, ◌++◌, Option, Some, None, refl, sym, ap, ◌∙◌, subst, append_assoc, append-nil, arith}
use Rattle.std.proofs.lemmas.Bool.{false≢true, true≢false}
use Rattle.tree.specs.Tree.{Tree, Parts, none, part, kind_of, parts_of}
use Rattle.language.specs.declared.Rank.{Rank}
use Rattle.language.specs.declared.Start.{Start}
use Rattle.language.specs.Pieces.{Role, expr, chain_part, pattern, script, Slot, fixed, left as left_slot, lead, tail, callee, lead_chain, lead_pattern}
use Rattle.language.specs.Grammar.{ways}
use Rattle.language.specs.RowPositions.{widest}
use Rattle.language.specs.Layout.{some_way}
use Rattle.language.specs.Cost.{add_cost, least}
use Rattle.spelling_table.specs.declared.outline.Outline.{Outline}
use Rattle.spelling_table.specs.Requirements.{fits_outline}
use Rattle.spellings.specs.Spelled.{settled_roles, Verdict}
use Rattle.spellings.specs.Remaining.{left}
use Rattle.spellings.specs.Wherever.{NodeSpelling, with_own, IsSpelledWherever}
use Rattle.cost_table.specs.declared.costs.Costs as own
use Rattle.cost_table.specs.declared.node_costs.NodeCosts.{NodeCosts}
use Rattle.cost_table.specs.declared.table.Row.{Row}
use Rattle.paren_planner.specs.declared.steps.NodeStep.{NodeStep}
use Rattle.paren_planner.specs.declared.steps.Step.{Step}
use Rattle.paren_planner.specs.declared.steps.Step.TheVariants.{Free, Passed, Leaf, Enter, Leave}
use Rattle.cost_table.specs.Costs.{capped, capped_sum, each, cost_at, sums, same_everywhere, cells_at, no_pairs, IsHeld}
use Rattle.cost_table.specs.Weighed.{settled_at, uses, fitting, sums_over, IsWeighed, slot_free, is_plain_outline}
use Rattle.cost_table.specs.Rows.{row_with, row_of, own_row}
use Rattle.spelling_table.specs.Requirements.{requirements_of}
use Rattle.paren_planner.specs.Steps.{free_row, outline_of, has_row_at, weighed_as, weighed_of, row_of_visit, Sums, joined, taken, taken_from, at_the_end}
use Rattle.paren_planner.specs.Noted.{IsVisit, are_free, Steps, unspelled, alone, around, costless, hidden, through, passed, is_settled, is_settled_slot, is_fixed, PartsSteps, over, skipped, unplaced, next, row_at, made_rows, made_parts}
use Rattle.cost_table.proofs.Plainly.{plain_uses}
use Rattle.paren_planner.proofs.FreeRows.{free_row_at}
use Rattle.cost_table.proofs.Sums.{sums-assoc, sums-zero, zero-zero, zero-sums}
use Rattle.cost_table.proofs.Known.{least_known, use_known}
use Rattle.cost_table.proofs.NodeRowNumbers.{sums-part, sums-gap, sums-end, sums-stop, way_when, weighed_some, weighed_none}
use Rattle.spellings.proofs.Wherever.{found_roles, AnySpelling, any_spelling}
use Rattle.paren_planner.proofs.MadeRows.{own_row_at}

-- Sums in the other order

capped-either : (x y : Option ℕ) → capped_sum x y ≡ capped_sum y x
unfolding capped_sum capped add_cost
capped-either None None = refl
capped-either None (Some m) = refl
capped-either (Some m) None = refl
capped-either (Some m) (Some k) = let e : min (m + k) 4294967295 ≡ min (k + m) 4294967295 = omega arith in ap (λ n. Some n) e

sums-either : (c d : own.Costs) → sums c d ≡ sums d c
sums-either c d = λ j. each (λ y i f. capped-either (cost_at c y i f) (cost_at d y i f) j)

-- What an outline asks is what its requirements ask

pub fits_outlined : (a : Role) (x : Outline) → fits_outline a (outline_of (requirements_of x)) ≡ fits_outline a x
fits_outlined (expr y i f) x = refl
fits_outlined (pattern b f) x = refl
fits_outlined _ x = refl

fitting_outlined : (a : Role) (x : Outline) (c : own.Costs) → fitting a (outline_of (requirements_of x)) c ≡ fitting a x c
fitting_outlined a x c = λ j. each (λ y i f. cond (fits_outlined (with_own y i f a) x j) (cost_at c y i f) None)

weighed_outlined : (a : Role) (n : Tree) (x : Outline) (c : own.Costs) → IsWeighed a n (record { outline = Some x; costs = c }) → IsWeighed a n (record { outline = Some (outline_of (requirements_of x)); costs = c })
weighed_outlined a n x c h = record {
  fits = λ y i f. h.fits y i f ∙ sym (fits_outlined (with_own y i f a) x);
  costs = h.costs;
}

-- A node's row

own_row_of : (p : Role) (n : Tree) (w : NodeCosts) → IsWeighed p n w → own_row p (row_with (kind_of n) w.costs) ≡ own_row p (row_of n)
unfolding row_of cells_at
own_row_of (expr y i f) n w h = ap (λ c. row_with (kind_of n) c ∷ []) h.costs
own_row_of _ n w h = refl

row_weighed : (a : Role) (s : Slot) (n : Tree) (w : NodeCosts) → IsWeighed (settled_at a s) n w → cond (has_row_at s) (row_with (kind_of n) w.costs ∷ []) [] ≡ row_at s n
row_weighed a s n w h = own_row_at s a (row_with (kind_of n) w.costs) ∙ own_row_of (settled_at a s) n w h ∙ sym (own_row_at s a (row_of n))

visit_row : (a : Role) (s : Slot) (n : Tree) (v : NodeStep) (c : own.Costs) (w : NodeCosts) → IsVisit a s n v → weighed_of v c ≡ w → IsWeighed (settled_at a s) n w → row_of_visit v c ≡ row_at s n
visit_row a s n v c w i e h = (λ j. cond (has_row_at (i.slot j)) (row_with (i.kind j) (e j).costs ∷ []) []) ∙ row_weighed a s n w h

-- A node that is joined to those behind it

abbrev with_rows : own.Costs → Sums → List Row → Sums
with_rows c t R = record { here = c; outer = t.outer; rows = R ++ t.rows }

pub record Joined (a : Role) (s : Slot) (n : Tree) (R : List Row) (t u : Sums) : Type 0 where
  pub weighed : NodeCosts
  pub known : IsWeighed (settled_at a s) n weighed
  pub is : u ≡ record { here = sums t.here (uses a s weighed); outer = t.outer; rows = R ++ t.rows }

joined_node : (a : Role) (s : Slot) (n : Tree) (v : NodeStep) (c : own.Costs) (w : NodeCosts) (R : List Row) (t : Sums) → IsVisit a s n v → weighed_of v c ≡ w → IsWeighed (settled_at a s) n w →
    joined v c (record { here = t.here; outer = t.outer; rows = R ++ t.rows }) ≡ record { here = sums t.here (uses a s w); outer = t.outer; rows = (row_at s n ++ R) ++ t.rows }
joined_node a s n v c w R t i e h =
    let r : row_of_visit v c ++ (R ++ t.rows) ≡ (row_at s n ++ R) ++ t.rows = ap (λ u. u ++ (R ++ t.rows)) (visit_row a s n v c w i e h) ∙ sym (append_assoc (row_at s n) R t.rows) in
    λ j. record { here = sums t.here (uses (i.above j) (i.slot j) (e j)); outer = t.outer; rows = r j }

weighed_with : (a : Role) (s : Slot) (n : Tree) (v : NodeStep) (x : Outline) (c : own.Costs) → IsVisit a s n v → v.requirements ≡ Some (requirements_of x) →
    weighed_of v c ≡ record { outline = Some (outline_of (requirements_of x)); costs = fitting (widest (settled_at a s)) x c }
weighed_with a s n v x c i l =
    (λ j. weighed_as (widest (settled_at (i.above j) (i.slot j))) (l j) c)
    ∙ ap (λ d. record { outline = Some (outline_of (requirements_of x)); costs = d }) (fitting_outlined (widest (settled_at a s)) x c)

weighed_without : (a : Role) (s : Slot) (n : Tree) (v : NodeStep) (c : own.Costs) → IsVisit a s n v → v.requirements ≡ None → weighed_of v c ≡ record { outline = None; costs = same_everywhere None }
weighed_without a s n v c i l = λ j. weighed_as (widest (settled_at (i.above j) (i.slot j))) (l j) c

-- of what is spelled, with the sums over its parts
spelled_node : (a : Role) (s : Slot) (n : Tree) (v : NodeStep) (x : NodeSpelling) (c : own.Costs) (R : List Row) (t : Sums) → IsVisit a s n v → v.requirements ≡ Some (requirements_of x.outline) → IsSpelledWherever (widest (settled_at a s)) n (Some x) →
    c ≡ sums_over (parts_of n) (widest (settled_at a s)) (left x.slots) → (u : Sums) → u ≡ joined v c (record { here = t.here; outer = t.outer; rows = R ++ t.rows }) → Joined a s n (row_at s n ++ R) t u
spelled_node a s n v x c R t i l k e u h =
    let d : own.Costs = fitting (widest (settled_at a s)) x.outline c in
    let w : IsWeighed (settled_at a s) n (record { outline = Some (outline_of (requirements_of x.outline)); costs = d }) =
    weighed_outlined (settled_at a s) n x.outline d (weighed_some (settled_at a s) n x k c d e refl) in
    record { weighed = record { outline = Some (outline_of (requirements_of x.outline)); costs = d }; known = w; is = h ∙ joined_node a s n v c _ R t i (weighed_with a s n v x.outline c i l) w }

taken_append : (xs ys : List Step) (t : Sums) → taken_from (xs ++ ys) t ≡ taken_from xs (taken_from ys t)
unfolding taken_from
taken_append [] ys t = refl
taken_append (x ∷ xs) ys t = ap (taken x) (taken_append xs ys t)

taken_leaf : (v : NodeStep) (t : Sums) → taken_from (Leaf v ∷ []) t ≡ joined v no_pairs t
unfolding taken_from
taken_leaf v t = refl

taken_around : (v : NodeStep) (ys : List Step) (t : Sums) → taken_from (Enter v ∷ (ys ++ Leave ∷ [])) t ≡ taken (Enter v) (taken_from ys (record { here = no_pairs; outer = t.here ∷ t.outer; rows = t.rows }))
unfolding taken_from
taken_around v ys t = ap (taken (Enter v)) (taken_append ys (Leave ∷ []) t)

-- A node that has no step of its own

rowless_free : (s : Slot) (z : Rank) → has_row_at s ≡ false → slot_free s z ≡ true
rowless_free (fixed (expr y i f)) z h = absurd (true≢false h)
rowless_free (fixed b) z h = refl
rowless_free (left_slot y) z h = absurd (true≢false h)
rowless_free (lead y) z h = absurd (true≢false h)
rowless_free (tail y x) z h = absurd (true≢false h)
rowless_free callee z h = absurd (true≢false h)
rowless_free lead_chain z h = refl
rowless_free lead_pattern z h = refl

settled_role : (ps : Parts) (b : Role) (x : Outline) (ss : List Slot) → is_settled b ≡ true → (a : Role) →
    sums_over ps (widest b) ss ≡ uses a (fixed b) (record { outline = Some x; costs = fitting (widest b) x (sums_over ps (widest b) ss) })
settled_role ps (expr y i f) x ss h a = absurd (false≢true h)
settled_role ps (chain_part f) x ss h a = absurd (false≢true h)
settled_role ps (pattern c f) x ss h a = absurd (false≢true h)
settled_role ps b x ss h a = refl

settled_uses : (ps : Parts) (a : Role) (s : Slot) (x : Outline) (ss : List Slot) → is_settled_slot s ≡ true →
    sums_over ps (widest (settled_at a s)) ss ≡ uses a s (record { outline = Some x; costs = fitting (widest (settled_at a s)) x (sums_over ps (widest (settled_at a s)) ss) })
settled_uses ps a (fixed b) x ss h = settled_role ps b x ss h a
settled_uses ps a (left_slot y) x ss h = absurd (false≢true h)
settled_uses ps a (lead y) x ss h = absurd (false≢true h)
settled_uses ps a (tail y f) x ss h = absurd (false≢true h)
settled_uses ps a callee x ss h = absurd (false≢true h)
settled_uses ps a lead_chain x ss h = absurd (false≢true h)
settled_uses ps a lead_pattern x ss h = absurd (false≢true h)

-- with the numbers that its spelling leaves of parts that cost nothing
record Bare (a : Role) (s : Slot) (n : Tree) (x : Outline) : Type 0 where
  known : IsWeighed (settled_at a s) n (record { outline = Some (outline_of (requirements_of x)); costs = fitting (widest (settled_at a s)) x no_pairs })
  uses : (is_plain_outline x ≡ true) → (slot_free s x.rank ≡ true) → uses a s (record { outline = Some (outline_of (requirements_of x)); costs = fitting (widest (settled_at a s)) x no_pairs }) ≡ no_pairs

bare : (a : Role) (s : Slot) (n : Tree) (x : NodeSpelling) → IsSpelledWherever (widest (settled_at a s)) n (Some x) → no_pairs ≡ sums_over (parts_of n) (widest (settled_at a s)) (left x.slots) → Bare a s n x.outline
bare a s n x k e =
    let b : Role = widest (settled_at a s) in
    let o : Outline = outline_of (requirements_of x.outline) in
    let d : own.Costs = fitting b x.outline no_pairs in
    record {
      known = weighed_outlined (settled_at a s) n x.outline d (weighed_some (settled_at a s) n x k no_pairs d e refl);
      uses = λ p f. ap (λ c. uses a s (record { outline = Some o; costs = c })) (sym (fitting_outlined b x.outline no_pairs)) ∙ plain_uses s o b p f a;
    }

free_node : (a : Role) (s : Slot) (n : Tree) (x : NodeSpelling) (R : List Row) (t : Sums) → IsSpelledWherever (widest (settled_at a s)) n (Some x) → is_plain_outline x.outline ≡ true → has_row_at s ≡ true → slot_free s x.outline.rank ≡ true →
    no_pairs ≡ sums_over (parts_of n) (widest (settled_at a s)) (left x.slots) → IsHeld t.here →
    Joined a s n (row_at s n ++ R) t (record { here = t.here; outer = t.outer; rows = free_row (kind_of n) x.outline.rank ∷ (R ++ t.rows) })
free_node a s n x R t k p r f e h =
    let b : Role = widest (settled_at a s) in
    let y : Bare a s n x.outline = bare a s n x k e in
    let nothing = y.uses p f in
    let own_rows : free_row (kind_of n) x.outline.rank ∷ [] ≡ row_at s n =
    ap (λ u. cond u (free_row (kind_of n) x.outline.rank ∷ []) []) (sym r)
    ∙ sym (free_row_at s a (kind_of n) x.outline p)
    ∙ row_weighed a s n _ y.known in
    record {
      weighed = record { outline = Some (outline_of (requirements_of x.outline)); costs = fitting b x.outline no_pairs };
      known = y.known;
      is = λ j. record { here = (sym h ∙ ap (sums t.here) (sym nothing)) j; outer = t.outer; rows = (own_rows j ++ R) ++ t.rows };
    }

-- steps of nodes that cost nothing change no sums
free_here : (xs : List Step) (t : Sums) → are_free xs ≡ true → (taken_from xs t).here ≡ t.here
unfolding taken_from
free_here [] t h = refl
free_here (Free k z ∷ xs) t h = free_here xs t h
free_here (Passed m ∷ xs) t h = free_here xs t h
free_here (Leaf v ∷ xs) t h = absurd (false≢true h)
free_here (Enter v ∷ xs) t h = absurd (false≢true h)
free_here (Leave ∷ xs) t h = absurd (false≢true h)

free_first : (k : Rattle.tree.specs.declared.kind.Kind.Kind) (z : Rank) (xs : List Step) (t : Sums) → taken_from (Free k z ∷ xs) t ≡ taken (Free k z) (taken_from xs t)
unfolding taken_from
free_first k z xs t = refl

hidden_node : (a : Role) (s : Slot) (n : Tree) (x : NodeSpelling) (t : Sums) → IsSpelledWherever (widest (settled_at a s)) n (Some x) → is_plain_outline x.outline ≡ true → parts_of n ≡ none → has_row_at s ≡ false → IsHeld t.here → Joined a s n [] t t
hidden_node a s n x t k p e r h =
    let b : Role = widest (settled_at a s) in
    let y : Bare a s n x.outline = bare a s n x k (sym (sums-end b (left x.slots)) ∙ ap (λ ps. sums_over ps b (left x.slots)) (sym e)) in
    let nothing = y.uses p (rowless_free s x.outline.rank r) in
    record {
      weighed = record { outline = Some (outline_of (requirements_of x.outline)); costs = fitting b x.outline no_pairs };
      known = y.known;
      is = λ j. record { here = (sym h ∙ ap (sums t.here) (sym nothing)) j; outer = t.outer; rows = t.rows };
    }

settled_here : (a : Role) (s : Slot) (n : Tree) (x : NodeSpelling) (R : List Row) (t u : Sums) → IsSpelledWherever (widest (settled_at a s)) n (Some x) → is_settled_slot s ≡ true →
    u ≡ record { here = sums t.here (sums_over (parts_of n) (widest (settled_at a s)) (left x.slots)); outer = t.outer; rows = R ++ t.rows } → Joined a s n R t u
settled_here a s n x R t u k r h =
    let b : Role = widest (settled_at a s) in
    let c : own.Costs = sums_over (parts_of n) b (left x.slots) in
    let d : own.Costs = fitting b x.outline c in
    record {
      weighed = record { outline = Some x.outline; costs = d };
      known = weighed_some (settled_at a s) n x k c d refl refl;
      is = h ∙ (λ j. record { here = sums t.here (settled_uses (parts_of n) a s x.outline (left x.slots) r j); outer = t.outer; rows = R ++ t.rows });
    }

-- A node that is passed

record AnyWeighed (a : Role) (n : Tree) : Type 0 where
  weighed : NodeCosts
  known : IsWeighed a n weighed

any_weighed : (a : Role) (n : Tree) → AnyWeighed a n
any_weighed a n = of s.found s.known
  where
    s : AnySpelling a n
    s = any_spelling a n

    of : (o : Option (Outline × List Slot)) → ((y : Rank) (i : Bool) (f : Start) → Verdict (ways (with_own y i f a) n) (found_roles (with_own y i f a) o)) → AnyWeighed a n
    of None k = record {
      weighed = record { outline = None; costs = cells_at n a };
      known = record { fits = λ y i f. ap some_way (k y i f); costs = refl };
    }
    of (Some x) k = record {
      weighed = record { outline = Some x.0; costs = cells_at n a };
      known = record {
        fits = λ y i f. way_when (ways (with_own y i f a) n) (found_roles (with_own y i f a) (Some x)) (k y i f) (fits_outline (with_own y i f a) x.0) (settled_roles (with_own y i f a) x.1) refl;
        costs = refl;
      };
    }

-- what costs nothing at its position costs nothing in the node above, wherever that stands
passed_uses : (a : Role) (s : Slot) (n : Tree) (w : NodeCosts) → is_fixed s ≡ true → IsWeighed (settled_at a s) n w → least n (settled_at a s) ≡ Some 0 → uses a s w ≡ no_pairs
unfolding capped
passed_uses a (fixed b) n w h k z = λ j. each (λ y i f. (use_known a (fixed b) n w k y i f ∙ ap capped z) j)
passed_uses a (left_slot y) n w h k z = absurd (false≢true h)
passed_uses a (lead y) n w h k z = absurd (false≢true h)
passed_uses a (tail y x) n w h k z = absurd (false≢true h)
passed_uses a callee n w h k z = absurd (false≢true h)
passed_uses a lead_chain n w h k z = absurd (false≢true h)
passed_uses a lead_pattern n w h k z = absurd (false≢true h)

taken_passed : (m : ℕ) (t : Sums) → taken_from (Passed m ∷ []) t ≡ t
unfolding taken_from
taken_passed m t = refl

passed_node : (a : Role) (s : Slot) (n : Tree) (t : Sums) → is_fixed s ≡ true → least n (settled_at a s) ≡ Some 0 → IsHeld t.here → Joined a s n [] t t
passed_node a s n t f z h =
    let w : AnyWeighed (settled_at a s) n = any_weighed (settled_at a s) n in
    record {
      weighed = w.weighed;
      known = w.known;
      is = λ j. record { here = (sym h ∙ ap (sums t.here) (sym (passed_uses a s n w.weighed f w.known z))) j; outer = t.outer; rows = t.rows };
    }

-- parts whose steps are such cost nothing, by what the steps do
free_sums_of : (a : Role) (ss : List Slot) (ps : Parts) (xs : List Step) (R : List Row) → are_free xs ≡ true → taken_from xs at_the_end ≡ record { here = sums no_pairs (sums_over ps a ss); outer = []; rows = R ++ [] } →
    no_pairs ≡ sums_over ps a ss
free_sums_of a ss ps xs R g e = sym (free_here xs at_the_end g) ∙ ap (λ t. t.here) e ∙ zero-sums (λ y i f. Rattle.language.specs.Cost.parts_least ps (settled_roles (with_own y i f a) ss))

mutual
  unfolding taken_from made_rows made_parts

  pub node_taken : {may_pass : Bool} {a : Role} {s : Slot} {n : Tree} {xs : List Step} → (h : Steps may_pass a s n xs) → (t : Sums) → IsHeld t.here → Joined a s n (made_rows h) t (taken_from xs t)
  node_taken {a} {s} {n} {xs} (unspelled v i l k e) t h =
      let w : IsWeighed (settled_at a s) n (record { outline = None; costs = same_everywhere None }) = weighed_none (settled_at a s) n k in
      record {
        weighed = record { outline = None; costs = same_everywhere None };
        known = w;
        is = ap (λ u. taken_from u t) e ∙ taken_leaf v t ∙ joined_node a s n v no_pairs _ [] t i (weighed_without a s n v no_pairs i l) w ∙ ap (with_rows (sums t.here (uses a s (record { outline = None; costs = same_everywhere None }))) t) (append-nil (row_at s n));
      }
  node_taken {a} {s} {n} {xs} (alone v x i l k p e) t h =
      subst (λ R. Joined a s n R t (taken_from xs t)) (append-nil (row_at s n))
      (spelled_node a s n v x no_pairs [] t i l k (sym (sums-end (widest (settled_at a s)) (left x.slots)) ∙ ap (λ ps. sums_over ps (widest (settled_at a s)) (left x.slots)) (sym p)) _ (ap (λ u. taken_from u t) e ∙ taken_leaf v t))
  node_taken {a} {s} {n} {xs} (around v x ys i l k q e) t h =
      let b : Role = widest (settled_at a s) in
      let o : own.Costs = sums no_pairs (sums_over (parts_of n) b (left x.slots)) in
      spelled_node a s n v x o (made_parts q) t i l k (zero-sums (λ y i f. Rattle.language.specs.Cost.parts_least (parts_of n) (settled_roles (with_own y i f b) (left x.slots)))) _
      (ap (λ u. taken_from u t) e ∙ taken_around v ys t ∙ ap (taken (Enter v)) (parts_taken q (record { here = no_pairs; outer = t.here ∷ t.outer; rows = t.rows }) zero-zero))
  node_taken {a} {s} {n} {xs} (costless x ys k p r f q g z) t h =
      subst (Joined a s n (row_at s n ++ made_parts q) t) (sym (ap (λ u. taken_from u t) z ∙ free_first (kind_of n) x.outline.rank ys t ∙ (λ j. record { here = free_here ys t g j; outer = (parts_taken q t h j).outer; rows = free_row (kind_of n) x.outline.rank ∷ (parts_taken q t h j).rows })))
      (free_node a s n x (made_parts q) t k p r f (free_sums_of (widest (settled_at a s)) (left x.slots) (parts_of n) ys (made_parts q) g (parts_taken q at_the_end zero-zero)) h)
  node_taken {a} {s} {n} {xs} (hidden x k p e r z) t h = subst (Joined a s n [] t) (sym (ap (λ u. taken_from u t) z)) (hidden_node a s n x t k p e r h)
  node_taken {a} {s} {n} {xs} (through x k r g q) t h = settled_here a s n x (made_parts q) t (taken_from xs t) k r (parts_taken q t h)
  node_taken {a} {s} {n} {xs} (passed m l f z e i) t h = subst (Joined a s n [] t) (sym (ap (λ u. taken_from u t) i ∙ taken_passed m t)) (passed_node a s n t f z h)

  pub parts_taken : {may_pass : Bool} {a : Role} {ss : List Slot} {ps : Parts} {xs : List Step} → (h : PartsSteps may_pass a ss ps xs) → (t : Sums) → IsHeld t.here →
      taken_from xs t ≡ record { here = sums t.here (sums_over ps a ss); outer = t.outer; rows = made_parts h ++ t.rows }
  parts_taken {a} {ss} over t h = λ j. record { here = sym (ap (sums t.here) (sums-end a ss) ∙ h) j; outer = t.outer; rows = t.rows }
  parts_taken {a} {ss} (skipped {ps = ps} q) t h =
      parts_taken q t h ∙ (λ j. record { here = sums t.here (sym (sums-gap ps a ss) j); outer = t.outer; rows = made_parts q ++ t.rows })
  parts_taken {a} (unplaced {n = n} {ps = ps}) t h = λ j. record { here = sums t.here (sym (sums-stop n ps a) j); outer = t.outer; rows = t.rows }
  parts_taken {a} (next {s = s} {ss = ss} {n = n} {ps = ps} xs ys p q e) t h =
      let T : Sums = record { here = sums t.here (sums_over ps a ss); outer = t.outer; rows = made_parts q ++ t.rows } in
      let N : Joined a s n (made_rows p) T (taken_from xs T) = node_taken p T (sums-zero t.here (sums_over ps a ss)) in
      let here : sums (sums t.here (sums_over ps a ss)) (uses a s N.weighed) ≡ sums t.here (sums_over (part n ps) a (s ∷ ss)) =
      sums-assoc t.here (sums_over ps a ss) (uses a s N.weighed) ∙ ap (sums t.here) (sums-either (sums_over ps a ss) (uses a s N.weighed) ∙ sums-part n ps a s ss N.weighed N.known) in
      ap (λ u. taken_from u t) e ∙ taken_append xs ys t ∙ ap (taken_from xs) (parts_taken q t h) ∙ N.is ∙ (λ j. record { here = here j; outer = t.outer; rows = sym (append_assoc (made_rows p) (made_parts q) t.rows) j })

pub free_sums : {may_pass : Bool} {a : Role} {ss : List Slot} {ps : Parts} {xs : List Step} → PartsSteps may_pass a ss ps xs → are_free xs ≡ true → no_pairs ≡ sums_over ps a ss
free_sums {a} {ss} {ps} {xs} q g = free_sums_of a ss ps xs (made_parts q) g (parts_taken q at_the_end zero-zero)

-- A script

pub script_rows : {may_pass : Bool} (n : Tree) (xs : List Step) → (h : Steps may_pass script (fixed script) n xs) → (taken_from xs at_the_end).rows ≡ made_rows h
script_rows n xs h = ap (λ t. t.rows) (node_taken h at_the_end zero-zero).is ∙ append-nil (made_rows h)

pub script_total : {may_pass : Bool} (n : Tree) (xs : List Step) → Steps may_pass script (fixed script) n xs → (taken_from xs at_the_end).here.has_in.any ≡ capped (least n script)
script_total n xs h =
    let N : Joined script (fixed script) n (made_rows h) at_the_end (taken_from xs at_the_end) = node_taken h at_the_end zero-zero in
    ap (λ t. t.here.has_in.any) N.is
    ∙ ap (capped_sum (Some 0)) (least_known script n N.weighed N.known Rattle.language.specs.declared.Rank.TheVariants.Expression true Rattle.language.specs.declared.Start.TheVariants.Any)
    ∙ ap (λ c. c.has_in.any) (zero-sums (λ y i f. least n script))
