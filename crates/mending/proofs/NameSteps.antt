-- Declarators, one after the other.
use Rattle.std.proofs.Common.{◌≡◌, ◌+◌, ◌≤◌, ℕ, Bool, true, ◌&&◌, Some, sym, ap, ◌∙◌, add-one}
use Rattle.tree.specs.declared.kind.Span.{Span}
use Rattle.tree.specs.Tree.{Tree, Parts, part_count, part_at, parts_drop}
use Rattle.mending.specs.Words.{nth, span_at, kind_at, is_identifier}
use Rattle.mending.specs.Mends.{are_names}
use Rattle.mending.proofs.MendSteps.{drop_some, drop_past}

-- if the declarators from a place on have names alone, all have
abbrev pub AreLeft : (Span → Bool) → Parts → ℕ → Type 0
AreLeft asked ds i = are_names asked (parts_drop i ds) ≡ true → are_names asked ds ≡ true

pub names_on : (asked : Span → Bool) (ds : Parts) (i : ℕ) (d : Tree) → Some d ≡ part_at ds i → is_identifier (kind_at (nth 0 d)) ≡ true → asked (span_at d (nth 0 d)) ≡ true → AreLeft asked ds i → AreLeft asked ds (i + 1)
names_on asked ds i d at name is left h =
    left (ap (are_names asked) (drop_some ds i d at) ∙ (λ j. name j && (is j && are_names asked (parts_drop (sym (add-one i) j) ds))) ∙ h)

pub names_end : (asked : Span → Bool) (ds : Parts) (i : ℕ) → part_count ds ≤ i → AreLeft asked ds i → are_names asked ds ≡ true
names_end asked ds i past left = left (ap (are_names asked) (drop_past ds i past))
