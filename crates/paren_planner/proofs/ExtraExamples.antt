-- Examples: the extra ones of the grouping pairs of small scripts, by the flags of their plans.
use Rattle.std.specs.Prelude.{◌≡◌, ℕ, true, false, refl, [], ◌∷◌}
use Rattle.tree.specs.declared.kind.Span.{Span}
use Rattle.spellings.specs.declared.pairs.PairRow.{PairRow}
use Rattle.paren_planner.specs.Extra.{extra_spans}

-- a pair, by its `(`, its `)` and its row; a span
abbrev g : ℕ → ℕ → ℕ → PairRow
g l r row = record { left = l; right = r; row = row }

abbrev span : ℕ → ℕ → Span
span l r = record { start = l; end = r }

-- `a;`
pub no_pairs : extra_spans (false ∷ []) [] ≡ []
no_pairs = refl

-- `((a));`
pub none_needed : extra_spans (false ∷ []) (g 0 4 1 ∷ g 1 3 1 ∷ []) ≡ span 0 5 ∷ span 1 4 ∷ []
none_needed = refl

-- `((a + b)) * c;`: the inner pair stays
pub innermost_stays : extra_spans (false ∷ true ∷ false ∷ false ∷ false ∷ []) (g 0 8 2 ∷ g 1 7 2 ∷ []) ≡ span 0 9 ∷ []
innermost_stays = refl

-- `((a, b) + (c)) * d;`
pub nested : extra_spans (false ∷ true ∷ true ∷ false ∷ false ∷ false ∷ false ∷ []) (g 0 13 2 ∷ g 1 6 3 ∷ g 10 12 6 ∷ []) ≡ span 10 13 ∷ []
nested = refl

-- `("use strict");` and `(("use strict"));`
pub string_at_the_front : extra_spans (true ∷ []) (g 0 13 1 ∷ []) ≡ []
string_at_the_front = refl

pub string_in_two : extra_spans (true ∷ []) (g 0 15 1 ∷ g 1 14 1 ∷ []) ≡ span 0 16 ∷ []
string_in_two = refl

-- a pair of no row
pub no_row : extra_spans (true ∷ []) (g 4 6 0 ∷ []) ≡ span 4 7 ∷ []
no_row = refl
