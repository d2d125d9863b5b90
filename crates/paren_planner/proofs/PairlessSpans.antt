-- Where pairs come in order of their `(`, the first that doesn't stand before a span says whether any opens in it.
use Rattle.std.proofs.Common.{◌≡◌, ℕ, zero, suc, ◌<◌, ◌≤◌, Bool, true, false, ltb, List, [], ◌∷◌, length, get_or, refl, ap, subst, arith, ◌⊎◌, inl, inr}
use Rattle.std.specs.List.Sorted.{IsPartitionPoint}
use Rattle.std.proofs.lemmas.Bool.Decides.{nat_tests}
use Rattle.tree.specs.declared.kind.Pair.{Pair}
use Rattle.language.specs.Derivation.{Among, first, later}
use Rattle.unambiguity_laws.specs.Laws.{InOrder}
use Rattle.pairless_laws.specs.Pairless.{IsPairless}
use Rattle.paren_planner.specs.Passing.{AreOrdered}

record At (P : List Pair) (p : Pair) : Type 0 where
  index : ℕ
  within : index < length P
  is : (d : Pair) → get_or P index d ≡ p

among_at : {p : Pair} {P : List Pair} → Among p P → At P p
among_at first = record { index = 0; within = omega arith; is = λ d. refl }
among_at (later h) = let x = among_at h in record { index = suc x.index; within = omega (arith, x.within); is = x.is }

below_or_not : (k i : ℕ) → (k < i) ⊎ (i ≤ k)
below_or_not k i = of (ltb k i) refl
  where
    of : (b : Bool) → ltb k i ≡ b → (k < i) ⊎ (i ≤ k)
    of true e = inl (grind (arith, nat_tests))
    of false e = inr (grind (arith, nat_tests))

tested : (a b : ℕ) → ltb a b ≡ true → a < b
tested a b h = grind (arith, nat_tests)

pub pairless_from : (P : List Pair) (i from to : ℕ) → AreOrdered P → IsPartitionPoint (λ y. ltb y.left from ≡ true) (λ y. ltb y.left from ≡ false) P i → (i < length P → (d : Pair) → to ≤ (get_or P i d).left) → IsPairless P from to
pairless_from P i from to ordered point behind p m = of (below_or_not x.index i)
  where
    x : At P p
    x = among_at m

    of : (x.index < i) ⊎ (i ≤ x.index) → (p.left < from) ⊎ (to ≤ p.left)
    of (inl h) = inl (tested p.left from (subst (λ q. ltb q.left from ≡ true) (x.is p) (point.0 x.index p (omega arith) h)))
    of (inr h) =
        let low : to ≤ (get_or P i p).left = behind (omega (arith, h, x.within)) p in
        let rises : (get_or P i p).left ≤ (get_or P x.index p).left = ordered i x.index p h x.within in
        let same : (get_or P x.index p).left ≡ p.left = ap (λ q. q.left) (x.is p) in
        inr (omega (arith, low, rises, same))

-- the pairs of a derivation come in order
from_first : (p : Pair) (P : List Pair) → InOrder (p ∷ P) → (j : ℕ) (d : Pair) → j < length (p ∷ P) → p.left ≤ (get_or (p ∷ P) j d).left
from_first p P h zero d l = omega arith
from_first p [] h (suc j) d l = omega (arith, l)
from_first p (q ∷ P) h (suc j) d l =
    let low : q.left ≤ (get_or (q ∷ P) j d).left = from_first q P h.2 j d (omega (arith, l)) in
    let next = h.1 in
    omega (arith, low, next)

after_first : (p : Pair) (P : List Pair) → InOrder (p ∷ P) → InOrder P
after_first p [] h = tt
after_first p (q ∷ P) h = h.2

pub ascending : (P : List Pair) → InOrder P → AreOrdered P
ascending P h zero j d l m = of P h m
  where
    of : (Q : List Pair) → InOrder Q → j < length Q → (get_or Q zero d).left ≤ (get_or Q j d).left
    of [] k n = omega (arith, n)
    of (p ∷ Q) k n = from_first p Q k j d n
ascending P h (suc i) zero d l m = omega (arith, l)
ascending [] h (suc i) (suc j) d l m = omega (arith, m)
ascending (p ∷ P) h (suc i) (suc j) d l m = ascending P (after_first p P h) i j d (omega (arith, l)) (omega (arith, m))
