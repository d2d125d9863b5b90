-- Names and literals that cost nothing where they stand, and their rows.
use Rattle.std.proofs.Common.{◌≡◌, ℕ, suc, ◌+◌, true, false, List, [], ◌∷◌, Some, None, refl, sym, ap, ◌∙◌, subst, arith}
use Rattle.std.specs.Prelude.{slice_get}
use Rattle.std.proofs.lemmas.Bool.{false≢true}
use Rattle.tree.specs.declared.kind.Kind.{Kind}
use Rattle.tree.specs.Tree.{Tree, Parts, none, part, gap, part_count, parts_of, kind_of}
use Rattle.language.specs.declared.Rank.TheVariants.{Primary}
use Rattle.language.specs.Pieces.{Role, expr, chain_part, pattern, Slot, fixed, left, lead, tail, callee, lead_chain, lead_pattern}
use Rattle.language.specs.Grammar.{ways}
use Rattle.language.specs.RowPositions.{first_roles, widest}
use Rattle.language.specs.Claims.{Table}
use Rattle.spelling_table.specs.Outlines.{leaf}
use Rattle.spellings.specs.Spelled.{Verdict}
use Rattle.spellings.specs.Remaining.{left as slots_left_of}
use Rattle.spellings.specs.Wherever.{NodeSpelling, spelled_roles, IsSpelledWherever}
use Rattle.cost_table.specs.declared.costs.Costs as own
use Rattle.cost_table.specs.Costs.{capped, eight, no_pairs, sums}
use Rattle.cost_table.specs.Rows.{is_expression}
use Rattle.cost_table.specs.Packed.{free_node}
use Rattle.cost_table.specs.Weighed.{fitting, role_free, settled_at, slot_free, uses}
use Rattle.cost_table.proofs.Free.{zero_at}
use Rattle.cost_table.proofs.Known.{own_widest}
use Rattle.cost_certificate.specs.Faults.{row_fault}
use Rattle.cost_certificate.specs.Walked.{wide_nodes, parts_wide_nodes, bounds_over, row_costs, IsFreeLeaf, IsInside, IsSmall}
use Rattle.cost_certificate.proofs.KindNames.{same_itself}
use Rattle.cost_certificate.proofs.WeighedNodes.{free_adds_nothing}
use Rattle.cost_certificate.proofs.CheckedRows.{passed_same, one_passed, row_matched}
use Rattle.cost_certificate.proofs.CellRows.{of_row, own_fault, at_widest}
use Rattle.cost_certificate.proofs.Bounds.{bounds-end, nodes_inside, nodes_own, inside_some, bounded_inside, bounded_row}

-- A leaf inside

no_parts : (ps : Parts) → part_count ps ≡ 0 → ps ≡ none
no_parts none h = refl
no_parts (gap ps) h = absurd (omega (arith, h))
no_parts (part n ps) h = absurd (omega (arith, h))

leaf_fits : (a : Role) → no_pairs ≡ fitting a (leaf Primary) no_pairs
leaf_fits (expr y i f) = refl
leaf_fits (chain_part f) = refl
leaf_fits (pattern b f) = refl
leaf_fits _ = refl

at_widest_too : (a : Role) (n : Tree) (x : NodeSpelling) → IsSpelledWherever a n (Some x) → IsSpelledWherever (widest a) n (Some x)
at_widest_too a n x h = λ y i f. subst (λ b. Verdict (ways b n) (spelled_roles b (Some x))) (sym (own_widest y i f a)) (h y i f)

leaf_inside : (t : Table) (a : Role) (n : Tree) (r : ℕ) (x : NodeSpelling) → x.outline ≡ leaf Primary → IsSpelledWherever a n (Some x) → part_count (parts_of n) ≡ 0 → IsInside t a n r (free_node Primary)
leaf_inside t a n r x o h p =
    subst (λ u. IsInside t a n r (record { outline = Some u; costs = no_pairs })) o
    (inside_some t a (widest a) n r x refl (at_widest_too a n x h) no_pairs no_pairs
    (sym (bounds-end t (widest a) (slots_left_of x.slots) r) ∙ ap (λ ps. bounds_over t ps (widest a) (slots_left_of x.slots) r) (sym (no_parts (parts_of n) p)))
    (leaf_fits (widest a) ∙ ap (λ u. fitting (widest a) u no_pairs) (sym o)))

no_nodes_in : (n : Tree) (xs : List Role) → part_count (parts_of n) ≡ 0 → parts_wide_nodes (parts_of n) xs ≡ []
unfolding parts_wide_nodes
no_nodes_in n xs p = ap (λ ps. parts_wide_nodes ps xs) (no_parts (parts_of n) p)

-- One without a row

free_without_row : (a : Role) → is_expression a ≡ false → role_free a Primary ≡ true
free_without_row (expr y i f) e = absurd (false≢true (sym e))
free_without_row _ e = refl

pub leaf_without_row : (t : Table) (a : Role) (n : Tree) (r : ℕ) (x : NodeSpelling) → x.outline ≡ leaf Primary → IsSpelledWherever a n (Some x) → part_count (parts_of n) ≡ 0 → is_expression a ≡ false → IsFreeLeaf t a n r r
leaf_without_row t a n r x o h p e = record {
  stands = free_without_row a e;
  bounds = bounded_inside t a n (suc r) (free_node Primary) e (leaf_inside t a n (suc r) x o h p);
  passed = passed_same t [] (wide_nodes n a) r (record { next = r; misshapen = None; fault = None }) (sym (no_nodes_in n (first_roles (ways (widest a) n)) p) ∙ nodes_inside n a e)
      (record { next = omega arith; shape = λ ls. refl; within = tt; fault = refl });
}

-- One with a row of zeros

zeros_small : IsSmall no_pairs
unfolding capped
zeros_small = λ y i f. ap capped (zero_at y i f) ∙ sym (zero_at y i f)

zeros_given : (t : Table) (r : ℕ) (k : Kind) → slice_get t.rows r ≡ Some (k, eight no_pairs) → no_pairs ≡ row_costs t (suc r)
zeros_given t r k h = ap of_row (sym h)

pub leaf_with_row : (t : Table) (a : Role) (n : Tree) (r : ℕ) (x : NodeSpelling) (k : Kind) → x.outline ≡ leaf Primary → IsSpelledWherever a n (Some x) → part_count (parts_of n) ≡ 0 → is_expression a ≡ true → role_free a Primary ≡ true →
    slice_get t.rows r ≡ Some (k, eight no_pairs) → k ≡ kind_of n → IsFreeLeaf t a n r (r + 1)
leaf_with_row t a n r x k o h p e free row q =
    let costs = zeros_given t r k row in
    let inside = leaf_inside t a n (suc (suc r)) x o h p in
    let matched = row_matched t.rows r (k, eight no_pairs) (kind_of n) (sym row) (ap (λ j. Rattle.cost_certificate.specs.Types.same_type j (kind_of n)) q ∙ same_itself (kind_of n)) in
    let fault : None ≡ row_fault t n (suc r) = own_fault t n (suc r) no_pairs no_pairs costs zeros_small (at_widest t a n (suc (suc r)) no_pairs e inside.costs) in
    record {
      stands = free;
      bounds = bounded_row t a n (suc r) (Some (leaf Primary)) no_pairs no_pairs e inside costs zeros_small;
      passed = passed_same t (n ∷ []) (wide_nodes n a) r (record { next = r + 1; misshapen = None; fault = None }) (ap (λ ns. n ∷ ns) (sym (no_nodes_in n (first_roles (ways (widest a) n)) p)) ∙ nodes_own n a e)
          (one_passed t n r (record { next = r + 1; misshapen = None; fault = None }) refl matched tt fault);
    }

-- What it adds to the sums over parts

slot_takes_leaf : (s : Slot) (a : Role) → role_free (settled_at a s) Primary ≡ true → slot_free s Primary ≡ true
slot_takes_leaf (fixed b) a h = h
slot_takes_leaf (left y) a h = h
slot_takes_leaf (lead y) a h = h
slot_takes_leaf (tail y f) a h = h
slot_takes_leaf callee a h = refl
slot_takes_leaf lead_chain a h = refl
slot_takes_leaf lead_pattern a h = refl

pub leaf_adds_nothing : (s : own.Costs) (x : Slot) (a : Role) → sums s no_pairs ≡ s → role_free (settled_at a x) Primary ≡ true → s ≡ sums s (uses a x (free_node Primary))
leaf_adds_nothing s x a w h = free_adds_nothing s x a Primary w (slot_takes_leaf x a h)
