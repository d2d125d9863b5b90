-- What is in a list that tests make.
use Rattle.std.proofs.Common.{◌≡◌, Bool, true, false, cond, List, [], ◌∷◌, ◌++◌, refl}
use Rattle.language.specs.Derivation.{Among, first, later}

pub one : {X : Type 0} {x y : X} → Among x (y ∷ []) → x ≡ y
one first = refl
one (later h) = elim h [ ]

-- by the two cases of a test
pub cases : {X R : Type 0} {x : X} {xs ys : List X} (b : Bool) → Among x (cond b xs ys) → (b ≡ true → Among x xs → R) → (b ≡ false → Among x ys → R) → R
cases true h f g = f refl h
cases false h f g = g refl h

-- nothing where the test holds
pub unless : {X R : Type 0} {x : X} {xs : List X} (b : Bool) → Among x (cond b [] xs) → (b ≡ false → Among x xs → R) → R
unless true h f = elim h [ ]
unless false h f = f refl h

module _ {X : Type 0} {x : X} where
  -- where a test chooses a list
  pub in_true : {xs : List X} (ys : List X) (b : Bool) → b ≡ true → Among x xs → Among x (cond b xs ys)
  in_true ys true e h = h
  in_true ys false e h = cc

  pub in_false : (xs : List X) {ys : List X} (b : Bool) → b ≡ false → Among x ys → Among x (cond b xs ys)
  in_false xs true e h = cc
  in_false xs false e h = h

  pub in_left : {xs : List X} (ys : List X) → Among x xs → Among x (xs ++ ys)
  in_left ys first = first
  in_left ys (later h) = later (in_left ys h)

  pub in_right : (xs : List X) {ys : List X} → Among x ys → Among x (xs ++ ys)
  in_right [] h = h
  in_right (z ∷ zs) h = later (in_right zs h)
