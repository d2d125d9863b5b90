-- The first of a slice, and the others.
use Rattle.std.proofs.Common.{◌≡◌, ◌-◌, ◌≤◌, List, [], ◌∷◌, length, take, drop, refl, sym, arith, Some, None}
use Rattle.std.specs.List.{slice_get}
use Rattle.std.proofs.lemmas.List.{take_all}

module _ {X : Type 0} where
  no_some : (x : X) → Some x ≡ None → ⊥
  no_some x e = cc

  pub first_some : (xs : List X) (x : X) → Some x ≡ slice_get xs 0 → xs ≡ x ∷ take (length xs - 1) (drop 1 xs)
  first_some [] x e = absurd (no_some x e)
  first_some (y ∷ ys) x e =
      let same : y ≡ x = cc in
      let l : length ys ≤ length (y ∷ ys) - 1 = omega arith in
      let others : take (length (y ∷ ys) - 1) ys ≡ ys = take_all (length (y ∷ ys) - 1) ys l in
      let back = sym others in
      (λ i. same i ∷ back i)

  pub first_none : (xs : List X) → None ≡ slice_get xs 0 → xs ≡ []
  first_none [] e = refl
  first_none (y ∷ ys) e = absurd (no_some y (sym e))
