-- The lesser of what was found and of more: in whatever order, it is the least of all.
use Rattle.std.proofs.Common.{◌≡◌, ℕ, Bool, true, false, cond, List, [], ◌∷◌, ◌++◌, Option, Some, None, refl, sym, ap, ◌∙◌, arith}
use Rattle.std.proofs.lemmas.Bool.Decides.{nat_tests}
use Rattle.std.specs.Prelude.{◌||◌, ◌&&◌, nat_lt, nat_eq, nat_le}
use Rattle.early_errors.specs.declared.EarlyError.{EarlyError}
use Rattle.early_errors.specs.Early.{Error, each, comes_first, lesser, least}
use Rattle.early_errors.specs.Walk.{sooner, after}

both_ways : (n a m b : ℕ) → (nat_lt a b || (nat_eq a b && nat_le n m)) ≡ true → (nat_lt b a || (nat_eq b a && nat_le m n)) ≡ true → (n ≡ m) × (a ≡ b)
both_ways n a m b e f = (grind (arith, nat_tests), grind (arith, nat_tests))

neither_way : (n a m b : ℕ) → (nat_lt a b || (nat_eq a b && nat_le n m)) ≡ false → (nat_lt b a || (nat_eq b a && nat_le m n)) ≡ true
neither_way n a m b e = grind (arith, nat_tests)

chain : (n a m b k c : ℕ) → (nat_lt a b || (nat_eq a b && nat_le n m)) ≡ true → (nat_lt b c || (nat_eq b c && nat_le m k)) ≡ true → (nat_lt a c || (nat_eq a c && nat_le n k)) ≡ true
chain n a m b k c e f = grind (arith, nat_tests)

both : (x y : Error) (b : Bool) → b ≡ true → b ≡ false → x ≡ y
both x y true e f = cc
both x y false e f = cc

lesser_of : (x y : Error) (a : Bool) → comes_first x y ≡ a → lesser x (Some y) ≡ cond a x y
lesser_of x y a e = ap (λ b. cond b x y) e

lesser_swaps : (x y : Error) (a b : Bool) → comes_first x y ≡ a → comes_first y x ≡ b → cond a x y ≡ cond b y x
lesser_swaps x y true true e f = let s = both_ways x.0 x.1 y.0 y.1 e f in λ i. (s.0 i, s.1 i)
lesser_swaps x y true false e f = refl
lesser_swaps x y false true e f = refl
lesser_swaps x y false false e f = both y x (comes_first y x) (neither_way x.0 x.1 y.0 y.1 e) f

lesser_chains : (x y z : Error) (a b : Bool) → comes_first x y ≡ a → comes_first y z ≡ b → lesser (cond a x y) (Some z) ≡ lesser x (Some (cond b y z))
lesser_chains x y z true true e f = lesser_of x z true (chain x.0 x.1 y.0 y.1 z.0 z.1 e f) ∙ sym (lesser_of x y true e)
lesser_chains x y z true false e f = refl
lesser_chains x y z false true e f = lesser_of y z true f ∙ sym (lesser_of x y false e)
lesser_chains x y z false false e f = lesser_of y z false f ∙ last (comes_first x z) refl
  where
    last : (c : Bool) → comes_first x z ≡ c → z ≡ lesser x (Some z)
    last true g =
        both z (lesser x (Some z)) (comes_first x y) (chain x.0 x.1 z.0 z.1 y.0 y.1 g (neither_way y.0 y.1 z.0 z.1 f)) e
    last false g = sym (lesser_of x z false g)

pub sooner-none : (o : Option Error) → sooner o None ≡ o
sooner-none None = refl
sooner-none (Some x) = refl

pub sooner-swaps : (o p : Option Error) → sooner o p ≡ sooner p o
sooner-swaps None p = sym (sooner-none p)
sooner-swaps (Some x) None = refl
sooner-swaps (Some x) (Some y) = ap (λ z. Some z) (lesser_swaps x y (comes_first x y) (comes_first y x) refl refl)

pub sooner-twice : (o p q : Option Error) → sooner (sooner o p) q ≡ sooner o (sooner p q)
sooner-twice None p q = refl
sooner-twice (Some x) None q = refl
sooner-twice (Some x) (Some y) None = refl
sooner-twice (Some x) (Some y) (Some z) = ap (λ w. Some w) (lesser_chains x y z (comes_first x y) (comes_first y z) refl refl)

-- the last two the other way round
pub sooner-turns : (o p q : Option Error) → sooner (sooner o p) q ≡ sooner (sooner o q) p
sooner-turns o p q = sooner-twice o p q ∙ ap (sooner o) (sooner-swaps p q) ∙ sym (sooner-twice o q p)

pub least-append : (xs ys : List Error) → least (xs ++ ys) ≡ sooner (least xs) (least ys)
least-append [] ys = refl
least-append (x ∷ xs) ys = ap (sooner (Some x)) (least-append xs ys) ∙ sym (sooner-twice (Some x) (least xs) (least ys))

pub after-append : (o : Option Error) (xs ys : List Error) → after o (xs ++ ys) ≡ after (after o xs) ys
after-append o xs ys = ap (sooner o) (least-append xs ys) ∙ sym (sooner-twice o (least xs) (least ys))

-- an error twice counts once
pub sooner-same : (o : Option Error) → sooner o o ≡ o
sooner-same None = refl
sooner-same (Some x) = ap (λ z. Some z) (one (comes_first x x))
  where
    one : (a : Bool) → cond a x x ≡ x
    one true = refl
    one false = refl

pub each-append : (e : EarlyError) (xs ys : List ℕ) → each e (xs ++ ys) ≡ each e xs ++ each e ys
each-append e [] ys = refl
each-append e (x ∷ xs) ys = ap (λ l. each e (x ∷ []) ++ l) (each-append e xs ys)
