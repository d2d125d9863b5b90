-- Examples: what costs a pair where it stands has one round it, though none opens in its span; where none opens, nothing costs a pair.
use Rattle.std.proofs.Common.{◌≡◌, ℕ, ◌≤◌, ◌<◌, true, false, [], ◌∷◌, refl, arith, ◌⊎◌, inl, inr}
use Rattle.std.specs.Prelude.{Some}
use Rattle.tree.specs.declared.kind.Kind.TheVariants.{ArrayExpression, CallExpression, SequenceExpression}
use Rattle.tree.specs.Tree.{Tree}
use Rattle.language.specs.declared.Rank.TheVariants.{Assignment}
use Rattle.language.specs.declared.Start.TheVariants.{Any}
use Rattle.language.specs.Pieces.{expr, item}
use Rattle.language.specs.Derivation.{first, later}
use Rattle.language.specs.Cost.{least}
use Rattle.language.proofs.examples.Sources.{tokens}
use Rattle.language.proofs.examples.Trees.{computing, found, id, n, once, one, pair, program, st, three, two}
use Rattle.pairless_laws.specs.Pairless.{IsPairless}

-- `f((a, b), [c]); d;`
abbrev sequence : Tree
sequence = n SequenceExpression 3 7 (two (id "a" 3) (id "b" 6))

abbrev array : Tree
array = n ArrayExpression 10 13 (one (id "c" 11))

abbrev call : Tree
call = st 0 15 (n CallExpression 0 14 (three (id "f" 0) sequence array))

abbrev other : Tree
other = st 16 18 (id "d" 16)

one_pair : found (tokens "f((a, b), [c]); d;") (program 18 (two call other)) ≡ once (pair 2 7 ∷ [])
unfolding computing
one_pair = refl

before : (from to : ℕ) → 2 < from → IsPairless (pair 2 7 ∷ []) from to
before from to h _ first = inl h
before from to h p (later a) = elim a [ ]

-- no pair opens in the span of the sequence
span_pairless : IsPairless (pair 2 7 ∷ []) 3 7
span_pairless = before 3 7 (omega arith)

-- but one does from the end of `f` on, and the sequence costs one
sequence_in_pair : IsPairless (pair 2 7 ∷ []) 1 7 → ⊥
sequence_in_pair h = of (h (pair 2 7) first)
  where
    of : (2 < 1) ⊎ (7 ≤ 2) → ⊥
    of (inl l) = omega (arith, l)
    of (inr l) = omega (arith, l)

sequence_costs : least sequence (expr Assignment true Any) ≡ Some 1
unfolding computing
sequence_costs = refl

-- so does the statement, in which it opens
call_costs : least call (item false) ≡ Some 1
unfolding computing
call_costs = refl

-- none opens from the end of the sequence up to the end of the array
array_pairless : IsPairless (pair 2 7 ∷ []) 7 13
array_pairless = before 7 13 (omega arith)

array_costs : least array (expr Assignment true Any) ≡ Some 0
unfolding computing
array_costs = refl

-- and none in the other statement
other_pairless : IsPairless (pair 2 7 ∷ []) 15 18
other_pairless = before 15 18 (omega arith)

other_costs : least other (item false) ≡ Some 0
unfolding computing
other_costs = refl
