-- What is known of a node, in few bytes or in numbers, and its row.
use Rattle.std.proofs.Common.{◌≡◌, ℕ, suc, ◌+◌, Bool, true, false, cond, ◌&&◌, List, [], ◌∷◌, ◌++◌, Some, None, refl, sym, ap, ◌∙◌, subst, arith}
use Rattle.std.specs.Prelude.{not, slice_get}
use Rattle.std.proofs.lemmas.Bool.{false≢true}
use Rattle.tree.specs.Uses.{implies}
use Rattle.tree.specs.declared.kind.Kind.{Kind}
use Rattle.tree.specs.Tree.{Tree, parts_of, kind_of}
use Rattle.language.specs.declared.Rank.{Rank}
use Rattle.language.specs.declared.Rank.TheVariants.{Member}
use Rattle.language.specs.declared.Start.{Start}
use Rattle.language.specs.declared.Start.TheVariants as start
use Rattle.language.specs.Vocabulary.{takes}
use Rattle.language.specs.Pieces.{Role, expr, chain_part, pattern, Slot}
use Rattle.language.specs.RowPositions.{widest}
use Rattle.language.specs.Claims.{Table}
use Rattle.spelling_table.specs.declared.outline.FirstToken.{FirstToken}
use Rattle.spelling_table.specs.declared.outline.FirstToken.TheVariants as opens
use Rattle.spelling_table.specs.declared.outline.Outline.{Outline}
use Rattle.spelling_table.specs.Outlines.{leaf, opens_at}
use Rattle.spelling_table.specs.Requirements.{fits_outline}
use Rattle.spellings.specs.Remaining.{left as slots_left_of}
use Rattle.spellings.specs.Wherever.{NodeSpelling, with_own, IsSpelledWherever}
use Rattle.cost_table.specs.declared.costs.Costs as own
use Rattle.cost_table.specs.declared.node_costs.NodeCosts.{NodeCosts}
use Rattle.cost_table.specs.declared.packed_row.FilledStarts.TheVariants.{Each, Nowhere}
use Rattle.cost_table.specs.Costs.{capped, cost_at, each, eight, no_pairs, sums}
use Rattle.cost_table.specs.Packed.{filled, free_node, free_shape, shaped}
use Rattle.cost_table.specs.Rows.{is_expression}
use Rattle.cost_table.specs.Weighed.{fitting, is_otherwise, is_plain_outline, least_of, slot_free, uses}
use Rattle.cost_table.proofs.Plainly.{free_costs, free_uses}
use Rattle.cost_certificate.specs.declared.check_rows.RowCheck.{RowCheck}
use Rattle.cost_certificate.specs.declared.weighed.Weighed.{Weighed}
use Rattle.cost_certificate.specs.declared.weighed.Weighed.TheVariants.{Any, Free}
use Rattle.cost_certificate.specs.Faults.{row_fault}
use Rattle.cost_certificate.specs.Types.{same_type}
use Rattle.cost_certificate.specs.Walked.{cells_fault, bounds_over, inside_of, row_costs, weight_of, IsBounded, IsFitted, IsInside, IsPassed, IsSmall}
use Rattle.cost_certificate.proofs.KindNames.{same_itself}
use Rattle.cost_certificate.proofs.CheckedRows.{one_passed, passed_join, row_matched}
use Rattle.cost_certificate.proofs.CellRows.{of_row, own_fault, at_widest, small_nine}
use Rattle.cost_certificate.proofs.Bounds.{bounded_inside, bounded_row, inside_some}

-- By the sums over its parts

plain_alike : (n : Bool) (o : FirstToken) → (not n && is_otherwise o) ≡ true → (i : Bool) (f : Start) → (implies n i && opens_at f o) ≡ opens_at f opens.Other
plain_alike false opens.Other h i f = refl
plain_alike false opens.Brace h i f = absurd (false≢true h)
plain_alike false opens.FunctionOrClass h i f = absurd (false≢true h)
plain_alike true o h i f = absurd (false≢true h)

plain_opens : (n : Bool) (o : FirstToken) → (not n && is_otherwise o) ≡ true → (f : Start) → opens_at f o ≡ opens_at f opens.Other
plain_opens false opens.Other h f = refl
plain_opens false opens.Brace h f = absurd (false≢true h)
plain_opens false opens.FunctionOrClass h f = absurd (false≢true h)
plain_opens true o h f = absurd (false≢true h)

-- what asks for no more than its symbol fits where a leaf at that symbol does
fits_as_leaf : (x : Outline) → is_plain_outline x ≡ true → (r : Role) → fits_outline r x ≡ fits_outline r (leaf x.rank)
fits_as_leaf x p (expr y i f) = ap (λ b. takes y x.rank && b) (plain_alike x.needs_in x.opens p i f)
fits_as_leaf x p (pattern b f) = plain_opens x.needs_in x.opens p f
fits_as_leaf x p _ = refl

pub fitted_free : (a : Role) (x : Outline) (c : own.Costs) (z : Rank) → is_plain_outline x ≡ true → c ≡ no_pairs → z ≡ x.rank → IsFitted a x c (inside_of a (Free z))
fitted_free a x c z p q e = record {
  fits = λ r. fits_as_leaf x p r ∙ ap (λ y. fits_outline r (leaf y)) (sym e);
  costs = (λ j. fitting a (leaf (e j)) no_pairs) ∙ (λ j. each (λ y i f. cond (sym (fits_as_leaf x p (with_own y i f a)) j) (cost_at no_pairs y i f) None)) ∙ ap (fitting a x) (sym q);
}

pub fitted_any : (a : Role) (x : Outline) (c : own.Costs) (w : Weighed) → w ≡ Any (record { outline = Some x; costs = fitting a x c }) → IsFitted a x c (inside_of a w)
fitted_any a x c w e = subst (λ v. IsFitted a x c (inside_of a v)) (sym e) (record { fits = λ r. refl; costs = refl })

pub inside_fitted : (t : Table) (a b : Role) (n : Tree) (r : ℕ) (x : NodeSpelling) (c : own.Costs) (w : NodeCosts) → b ≡ widest a → IsSpelledWherever b n (Some x) → c ≡ bounds_over t (parts_of n) b (slots_left_of x.slots) r → IsFitted b x.outline c w → IsInside t a n r w
inside_fitted t a b n r x c w q h e i =
    let known = inside_some t a b n r x q h c (fitting b x.outline c) e refl in
    record {
      fits = λ y j f. known.fits y j f ∙ i.fits (with_own y j f a);
      costs = i.costs ∙ known.costs;
    }

-- One without a row

hidden_least : (a : Role) (z : Rank) (y : Rank) (i : Bool) (f : Start) → is_expression a ≡ false → least_of (free_node z) (with_own y i f a) ≡ least_of (inside_of (widest a) (Free z)) (with_own y i f a)
hidden_least (expr x j g) z y i f h = absurd (false≢true (sym h))
hidden_least (chain_part g) z y i start.Any h = refl
hidden_least (chain_part g) z y i start.NoBrace h = refl
hidden_least (chain_part g) z y i start.Statement h = refl
hidden_least (pattern b g) z y i start.Any h = refl
hidden_least (pattern b g) z y i start.NoBrace h = refl
hidden_least (pattern b g) z y i start.Statement h = refl
hidden_least _ z y i f h = refl

pub bounded_hidden : (t : Table) (a : Role) (n : Tree) (r : ℕ) (w : Weighed) → is_expression a ≡ false → IsInside t a n r (inside_of (widest a) w) → IsBounded t a n r (weight_of w)
bounded_hidden t a n r (Free z) h i = λ y j f. hidden_least a z y j f h ∙ bounded_inside t a n r (inside_of (widest a) (Free z)) h i y j f
bounded_hidden t a n r (Any w) h i = bounded_inside t a n r w h i

-- One with a row

pub inside_shown : (a : Role) (w : Weighed) → is_expression a ≡ true → inside_of (widest a) w ≡ weight_of w
inside_shown (expr y i f) (Free z) h = ap (λ c. record { outline = Some (leaf z); costs = c }) (free_costs (leaf z) refl)
inside_shown (expr y i f) (Any w) h = refl
inside_shown _ w h = absurd (false≢true h)

pub inside_numbers : (t : Table) (a : Role) (n : Tree) (r : ℕ) (w : Weighed) (c : NodeCosts) → is_expression a ≡ true → IsInside t a n (suc (r + 1)) (inside_of (widest a) w) → c ≡ weight_of w → IsInside t a n (suc (suc r)) c
inside_numbers t a n r w c h i e =
    let next : suc (r + 1) ≡ suc (suc r) = omega arith in
    subst (λ m. IsInside t a n m c) next (subst (IsInside t a n (suc (r + 1))) (inside_shown a w h ∙ sym e) i)

abbrev free_if : Bool → own.Costs
free_if b = record { has_in = filled Each 0; without_in = filled Each 0; at_member = filled (cond b Each Nowhere) 0 }

free_small : (b : Bool) → IsSmall (free_if b)
unfolding capped
free_small true = small_nine (Some 0) (Some 0) (Some 0) (Some 0) (Some 0) (Some 0) (Some 0) (Some 0) (Some 0) refl refl refl refl refl refl refl refl refl
free_small false = small_nine (Some 0) (Some 0) (Some 0) (Some 0) (Some 0) (Some 0) None None None refl refl refl refl refl refl refl refl refl

no_fault : (b : Bool) (r : ℕ) → None ≡ cells_fault (eight (free_if b)) (eight (free_if b)) r
no_fault true r = refl
no_fault false r = refl

row_kept : (t : Table) (r : ℕ) (k : Kind) (z : Rank) → slice_get t.rows r ≡ Some (k, eight (shaped (free_shape z) 0)) → shaped (free_shape z) 0 ≡ row_costs t (suc r)
row_kept t r k z h = ap of_row (sym h)

pub bounded_free : (t : Table) (a : Role) (n : Tree) (r : ℕ) (z : Rank) (k : Kind) (w : Weighed) → is_expression a ≡ true → IsInside t a n (suc (r + 1)) (inside_of (widest a) w) → w ≡ Free z → slice_get t.rows r ≡ Some (k, eight (shaped (free_shape z) 0)) → IsBounded t a n (suc r) (weight_of w)
bounded_free t a n r z k w h i e row =
    let inside = inside_numbers t a n r w (free_node z) h i (sym (ap weight_of e)) in
    subst (λ u. IsBounded t a n (suc r) (weight_of u)) (sym e)
    (bounded_row t a n (suc r) (Some (leaf z)) (shaped (free_shape z) 0) (shaped (free_shape z) 0) h inside (row_kept t r k z row) (free_small (takes Member z)))

pub passed_free : (t : Table) (a : Role) (n : Tree) (r : ℕ) (z : Rank) (k : Kind) (w : Weighed) (ns : List Tree) (p : RowCheck) → is_expression a ≡ true → IsInside t a n (suc (r + 1)) (inside_of (widest a) w) → w ≡ Free z → slice_get t.rows r ≡ Some (k, eight (shaped (free_shape z) 0)) → k ≡ kind_of n →
    IsPassed t ns (r + 1) p → IsPassed t ((n ∷ []) ++ ns) r p
passed_free t a n r z k w ns p h i e row q behind =
    let inside = inside_numbers t a n r w (free_node z) h i (sym (ap weight_of e)) in
    let fault : None ≡ row_fault t n (suc r) =
    no_fault (takes Member z) (suc r) ∙ own_fault t n (suc r) (shaped (free_shape z) 0) (shaped (free_shape z) 0) (row_kept t r k z row) (free_small (takes Member z)) (at_widest t a n (suc (suc r)) (shaped (free_shape z) 0) h inside.costs) in
    let matched = row_matched t.rows r (k, eight (shaped (free_shape z) 0)) (kind_of n) (sym row) (ap (λ j. same_type j (kind_of n)) q ∙ same_itself (kind_of n)) in
    let first : RowCheck = record { next = r + 1; misshapen = None; fault = None } in
    passed_join t (n ∷ []) ns r first p p.misshapen p.fault refl refl (one_passed t n r first refl matched tt fault) behind

-- What one adds to the sums over parts

pub free_adds_nothing : (s : own.Costs) (x : Slot) (a : Role) (z : Rank) → sums s no_pairs ≡ s → slot_free x z ≡ true → s ≡ sums s (uses a x (free_node z))
free_adds_nothing s x a z w h = sym w ∙ ap (sums s) (sym (free_uses x (free_node z) (leaf z) refl refl h refl a))
