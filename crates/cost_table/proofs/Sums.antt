-- Sums of numbers of pairs.
use Rattle.std.proofs.Common.{◌≡◌, ℕ, ◌+◌, Bool, min, Option, Some, None, refl, ap, arith}
use Rattle.language.specs.Cost.{add_cost, lesser}
use Rattle.cost_table.specs.declared.costs.Costs as own
use Rattle.cost_table.specs.Costs.{capped, capped_sum, each, cost_at, sums, same_everywhere}

pub capped_sum-assoc : (x y z : Option ℕ) → capped_sum (capped_sum x y) z ≡ capped_sum x (capped_sum y z)
unfolding capped_sum capped add_cost
capped_sum-assoc None y z = refl
capped_sum-assoc (Some m) None z = refl
capped_sum-assoc (Some m) (Some n) None = refl
capped_sum-assoc (Some m) (Some n) (Some p) = let e : min (min (m + n) 4294967295 + p) 4294967295 ≡ min (m + min (n + p) 4294967295) 4294967295 = omega arith in ap (λ k. Some k) e

pub capped-add : (x y : Option ℕ) → capped (add_cost x y) ≡ capped_sum (capped x) (capped y)
unfolding capped_sum capped add_cost
capped-add None y = refl
capped-add (Some m) None = refl
capped-add (Some m) (Some n) = let e : min (m + n) 4294967295 ≡ min (min m 4294967295 + min n 4294967295) 4294967295 = omega arith in ap (λ k. Some k) e

pub capped-one : (x : Option ℕ) → capped_sum (Some 1) (capped x) ≡ capped (add_cost (Some 1) x)
unfolding capped_sum capped add_cost
capped-one None = refl
capped-one (Some m) = let e : min (1 + min m 4294967295) 4294967295 ≡ min (1 + m) 4294967295 = omega arith in ap (λ k. Some k) e

pub capped-none : (x : Option ℕ) → capped_sum x None ≡ None
unfolding capped_sum capped add_cost
capped-none None = refl
capped-none (Some m) = refl

zero-capped : (x : Option ℕ) → capped_sum (Some 0) (capped x) ≡ capped x
unfolding capped_sum capped add_cost
zero-capped None = refl
zero-capped (Some m) = let e : min (0 + min m 4294967295) 4294967295 ≡ min m 4294967295 = omega arith in ap (λ k. Some k) e

capped-zero : (x y : Option ℕ) → capped_sum (capped_sum x y) (Some 0) ≡ capped_sum x y
unfolding capped_sum capped add_cost
capped-zero None y = refl
capped-zero (Some m) None = refl
capped-zero (Some m) (Some n) = let e : min (min (m + n) 4294967295 + 0) 4294967295 ≡ min (m + n) 4294967295 = omega arith in ap (λ k. Some k) e

pub capped-lesser : (x y : Option ℕ) → lesser (capped x) (capped y) ≡ capped (lesser x y)
unfolding capped lesser
capped-lesser None y = refl
capped-lesser (Some m) None = refl
capped-lesser (Some m) (Some n) = let e : min (min m 4294967295) (min n 4294967295) ≡ min (min m n) 4294967295 = omega arith in ap (λ k. Some k) e

-- everywhere

pub sums-assoc : (c d e : own.Costs) → sums (sums c d) e ≡ sums c (sums d e)
sums-assoc c d e = λ j. each (λ y i f. capped_sum-assoc (cost_at c y i f) (cost_at d y i f) (cost_at e y i f) j)

pub sums-zero : (c d : own.Costs) → sums (sums c d) (same_everywhere (Some 0)) ≡ sums c d
sums-zero c d = λ j. each (λ y i f. capped-zero (cost_at c y i f) (cost_at d y i f) j)

pub sums-none : (c : own.Costs) → sums c (same_everywhere None) ≡ same_everywhere None
sums-none c = λ j. each (λ y i f. capped-none (cost_at c y i f) j)

pub zero-sums : (h : Rattle.language.specs.declared.Rank.Rank → Bool → Rattle.language.specs.declared.Start.Start → Option ℕ) → sums (same_everywhere (Some 0)) (each (λ y i f. capped (h y i f))) ≡ each (λ y i f. capped (h y i f))
zero-sums h = λ j. each (λ y i f. zero-capped (h y i f) j)

pub zero-zero : sums (same_everywhere (Some 0)) (same_everywhere (Some 0)) ≡ same_everywhere (Some 0)
unfolding capped_sum capped add_cost
zero-zero = refl
