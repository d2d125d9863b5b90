-- Examples: how far they compute.
use Rattle.std.specs.Prelude.{◌≡◌, ℕ, zero, suc, true, refl, Some}
use Rattle.tree.specs.declared.kind.Kind.TheVariants.{BinaryExpression, ArrayExpression}
use Rattle.language.specs.declared.Rank.TheVariants.{Expression}
use Rattle.language.specs.declared.Start.TheVariants.{Any}
use Rattle.tree.specs.Tree.{Tree, height, none}
use Rattle.language.specs.Pieces.{expr}
use Rattle.language.specs.Cost.{least}
use Rattle.language.specs.Claims.{max_height}
use Rattle.language.proofs.examples.Trees.{id, t, n, one, two, st, program, computing}

-- a - (a - (a - ..)), with so many operators
abbrev pub nest : ℕ → Tree
nest zero = id "a" 0
nest (suc m) = t BinaryExpression "-" 0 0 (two (id "a" 0) (nest m))

pub nest_12 : least (nest 12) (expr Expression true Any) ≡ Some 11
unfolding computing
nest_12 = refl

pub nest_40 : least (nest 40) (expr Expression true Any) ≡ Some 39
unfolding computing
nest_40 = refl

-- a + a + .., with so many operators
abbrev pub sum_of : ℕ → Tree
sum_of zero = id "a" 0
sum_of (suc m) = t BinaryExpression "+" 0 0 (two (sum_of m) (id "a" 0))

-- `[[..]]`, so many in the outermost one
abbrev pub arrays_in : ℕ → Tree
arrays_in zero = n ArrayExpression 0 0 none
arrays_in (suc m) = n ArrayExpression 0 0 (one (arrays_in m))

-- the heights of `[` 598 times and closed, and 599 times; of `a` and then ` + a` 597 times, and 598 times
pub arrays_at_the_limit : height (program 0 (one (st 0 0 (arrays_in 597)))) ≡ max_height
arrays_at_the_limit = refl

pub arrays_above_the_limit : height (program 0 (one (st 0 0 (arrays_in 598)))) ≡ suc max_height
arrays_above_the_limit = refl

pub sum_at_the_limit : height (program 0 (one (st 0 0 (sum_of 597)))) ≡ max_height
sum_at_the_limit = refl

pub sum_above_the_limit : height (program 0 (one (st 0 0 (sum_of 598)))) ≡ suc max_height
sum_above_the_limit = refl
