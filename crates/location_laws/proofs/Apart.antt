-- Lists of what stands at places: each where the one before it ends or behind it.
use Rattle.std.proofs.Common.{◌≡◌, ℕ, ◌≤◌, ◌<◌, true, List, [], ◌∷◌, ◌++◌, refl, arith}
use Rattle.std.specs.Prelude.{map, nat_le, nat_lt}
use Rattle.std.proofs.lemmas.Bool.{and_from}
use Rattle.std.proofs.lemmas.Bool.Decides.{nat_tests}
use Rattle.language.specs.Derivation.{Among, first, later}
use Rattle.location_laws.specs.ScopeRanges.{are_disjoint_from}
use Rattle.location_laws.proofs.OrderLemmas.{le_test}

lt_test : (m n : ℕ) → m < n → nat_lt m n ≡ true
lt_test m n h = grind (arith, nat_tests)

-- what is known of each: its name, and where it starts and ends
module _ (Q : List ℕ → ℕ → ℕ → Type 0) (A : Type 0) (name : A → List ℕ) (start stop : A → ℕ) where
  abbrev pub Apart : ℕ → ℕ → List A → Type 0
  Apart from to [] = from ≤ to
  Apart from to (x ∷ xs) = (from ≤ start x) × (start x < stop x) × Q (name x) (start x) (stop x) × Apart (stop x) to xs

  pub apart_within : (a from to b : ℕ) (xs : List A) → a ≤ from → to ≤ b → Apart from to xs → Apart a b xs
  apart_within a from to b [] x y h = omega (arith, x, y, h)
  apart_within a from to b (z ∷ xs) x y h = let c = h.0 in (omega (arith, x, c), h.1, h.2, apart_within (stop z) (stop z) to b xs (omega arith) y h.3)

  pub apart_append : (a m b : ℕ) (xs ys : List A) → Apart a m xs → Apart m b ys → Apart a b (xs ++ ys)
  apart_append a m b [] ys h k = apart_within a m b b ys h (omega arith) k
  apart_append a m b (x ∷ xs) ys h k = (h.0, h.1, h.2, apart_append (stop x) m b xs ys h.3 k)

  pub apart_test : (from to : ℕ) (xs : List A) → Apart from to xs → are_disjoint_from from (map (λ x. (start x, stop x)) xs) ≡ true
  apart_test from to [] h = refl
  apart_test from to (x ∷ xs) h = and_from (nat_le from (start x)) _ (le_test from (start x) h.0) (and_from (nat_lt (start x) (stop x)) _ (lt_test (start x) (stop x) h.1) (apart_test (stop x) to xs h.3))

  pub apart_name : {x : A} (from to : ℕ) (xs : List A) → Apart from to xs → Among x xs → Q (name x) (start x) (stop x)
  apart_name from to [] h a = elim a [ ]
  apart_name from to (x ∷ xs) h first = h.2
  apart_name from to (x ∷ xs) h (later a) = apart_name (stop x) to xs h.3 a
