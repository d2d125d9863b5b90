-- Tables of texts, with those of their texts that pass a test.
use Rattle.std.specs.Prelude.{ℕ, Bool, false, ◌||◌, List, [], ◌∷◌, nat_eq, slice_index_or, filter, codes}
use Prim.Native.String.{String}

abbrev pub only_texts : {A : Type 0} → (List ℕ → Bool) → List (List String × A) → List (List String × A)
only_texts p [] = []
only_texts p (row ∷ rows) = (filter (λ s. p (codes s)) row.0, row.1) ∷ only_texts p rows

-- the text begins with one of these bytes
abbrev pub begins_with : List ℕ → List ℕ → Bool
begins_with [] w = false
begins_with (b ∷ bs) w = nat_eq (slice_index_or w 0 0) b || begins_with bs w
