-- Ends of parts and of texts.
use Rattle.std.proofs.Common.{◌≡◌, ℕ, zero, suc, ◌+◌, ◌-◌, Bool, true, false, not, nat_lt, nat_eq, List, [], ◌∷◌, length, refl, ap, ◌∙◌, arith}
use Rattle.std.specs.Prelude.{Some, None, slice_get}
use Rattle.std.proofs.lemmas.Bool.Decides.{nat_tests}
use Rattle.tree.specs.Tree.{Parts, none, part, gap, part_count}
use Rattle.tokens.specs.declared.token.TokenClass.TheVariants.{NumericLiteral}
use Rattle.language.specs.Pieces.{is_none}
use Rattle.language.specs.Vocabulary.{is_open_number}
use Rattle.spelling_table.specs.Outlines.{parts_after}

filled_none : (i : ℕ) → false ≡ not (is_none (parts_after i none))
filled_none zero = refl
filled_none (suc i) = filled_none i

above_none : (c : ℕ) → nat_lt 0 (c + 1) ≡ true
above_none c = grind (arith, nat_tests)

above_more : (i c : ℕ) → nat_lt (suc i) (c + 1) ≡ nat_lt i c
above_more i c = grind (arith, nat_tests)

nothing_above : (i : ℕ) → nat_lt i 0 ≡ false
nothing_above i = grind (arith, nat_tests)

pub filled : (ps : Parts) (i : ℕ) → nat_lt i (part_count ps) ≡ not (is_none (parts_after i ps))
filled none i = nothing_above i ∙ filled_none i
filled (part n ps) zero = above_none (part_count ps)
filled (part n ps) (suc i) = above_more i (part_count ps) ∙ filled ps i
filled (gap ps) zero = above_none (part_count ps)
filled (gap ps) (suc i) = above_more i (part_count ps) ∙ filled ps i

pub last_open : (w : List ℕ) (x : ℕ) → Some x ≡ slice_get w (length w - 1) → nat_eq x 110 ≡ not (is_open_number NumericLiteral w)
last_open [] x h = absurd (cc)
last_open (c ∷ []) x h = let e : x ≡ c = cc in ap (λ v. nat_eq v 110) e ∙ twice (nat_eq c 110)
  where
    twice : (b : Bool) → b ≡ not (not b)
    twice true = refl
    twice false = refl
last_open (c ∷ d ∷ cs) x h =
    let e : length (c ∷ d ∷ cs) - 1 ≡ suc (length (d ∷ cs) - 1) = omega arith in
    last_open (d ∷ cs) x (h ∙ ap (slice_get (c ∷ d ∷ cs)) e)

pub empty_open : (w : List ℕ) → None ≡ slice_get w (length w - 1) → false ≡ not (is_open_number NumericLiteral w)
empty_open [] h = refl
empty_open (c ∷ []) h = absurd (cc)
empty_open (c ∷ d ∷ cs) h =
    let e : length (c ∷ d ∷ cs) - 1 ≡ suc (length (d ∷ cs) - 1) = omega arith in
    empty_open (d ∷ cs) (h ∙ ap (slice_get (c ∷ d ∷ cs)) e)
