-- Texts in the order of their bytes.
use Rattle.std.specs.Prelude.{ℕ, Bool, true, not, ◌&&◌, List, [], ◌∷◌}
use Rattle.std.specs.Ordering.{is_lt, nat_cmp}
use Rattle.std.specs.Cmp.Lexicographic.{slice_cmp}

-- no text stands behind a greater one
abbrev pub is_sorted : List (List ℕ) → Bool
is_sorted [] = true
is_sorted (x ∷ []) = true
is_sorted (x ∷ y ∷ rest) = not (is_lt (slice_cmp nat_cmp y x)) && is_sorted (y ∷ rest)
