-- A list in chunks with room for n items each, of which each but the last is full.
use Rattle.std.specs.Prelude.{◌≡◌, ℕ, ◌<◌, ◌≤◌, List, [], ◌∷◌, ◌++◌, length}
use Rattle.std.specs.Vec.{vec_capacity}
use Rattle.segmented_vec.specs.declared.segmented_vec.Segment.{Segment}

-- the items of all chunks
abbrev pub joined : {T : Type 0} → List (Segment T) → List T
joined [] = []
joined (p ∷ ps) = p.items.items ++ joined ps

abbrev pub AllButTheLastAreFull : {T : Type 0} → ℕ → List (Segment T) → Type 0
AllButTheLastAreFull n [] = Unit {0}
AllButTheLastAreFull n (p ∷ ps) = (length p.items.items ≤ n) × ((0 < length ps → n ≤ length p.items.items) × AllButTheLastAreFull n ps)

-- each has room for as many items as a full one
abbrev pub HaveRoom : {T : Type 0} → ℕ → List (Segment T) → Type 0
HaveRoom n [] = Unit {0}
HaveRoom n (p ∷ ps) = (n ≤ vec_capacity p.items) × HaveRoom n ps

-- an empty chunk with room for as many stands behind the others
pub record HasBegun {T : Type 0} (n : ℕ) (ps xs : List (Segment T)) : Type 0 where
  pub chunk : Segment T
  pub empty : chunk.items.items ≡ []
  pub room : n ≤ vec_capacity chunk.items
  pub behind : xs ≡ ps ++ chunk ∷ []

-- as many items as a `Vec` may hold, and so at most as many as there may be in all
abbrev pub most_in_all : ℕ
most_in_all = 9223372036854775807
