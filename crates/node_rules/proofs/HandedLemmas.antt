-- Arguments beside parameters, as a loop over arguments goes.
use Rattle.std.proofs.Common.{◌≡◌, ℕ, zero, suc, ◌+◌, ◌<◌, ◌≤◌, true, false, Option, refl, sym, ap, ◌∙◌, arith, add-one}
use Rattle.std.specs.Prelude.{◌&&◌}
use Rattle.tree.specs.Tree.{Tree, Parts, none, part, gap, part_at, part_count, parts_drop}
use Rattle.language.specs.FirstPart.{others}
use Rattle.node_rules.specs.ClassTests.{each_is_handed_on, is_handed_on}

drop-others : (ps : Parts) (i : ℕ) → parts_drop i (others ps) ≡ parts_drop (suc i) ps
drop-others none zero = refl
drop-others none (suc i) = refl
drop-others (part t ps) i = refl
drop-others (gap ps) i = refl

at-others : (ps : Parts) (i : ℕ) → part_at (others ps) i ≡ part_at ps (suc i)
at-others none zero = refl
at-others none (suc i) = refl
at-others (part t ps) i = refl
at-others (gap ps) i = refl

handed-step : (ps qs : Parts) (i : ℕ) (o p : Option Tree) → i < part_count qs → o ≡ part_at ps i → p ≡ part_at qs i →
    each_is_handed_on (parts_drop i ps) (parts_drop i qs) ≡ (is_handed_on o p && each_is_handed_on (parts_drop (suc i) ps) (parts_drop (suc i) qs))
unfolding each_is_handed_on
handed-step ps none i o p l e f = absurd (omega (arith, l))
handed-step ps (part u us) zero o p l e f = (λ j. is_handed_on (sym e j) (sym f j) && each_is_handed_on (drop-others ps zero j) us)
handed-step ps (gap us) zero o p l e f = (λ j. is_handed_on (sym e j) (sym f j) && each_is_handed_on (drop-others ps zero j) us)
handed-step ps (part u us) (suc i) o p l e f =
    ap (λ x. each_is_handed_on x (parts_drop i us)) (sym (drop-others ps i)) ∙ handed-step (others ps) us i o p (omega (arith, l)) (e ∙ sym (at-others ps i)) f
    ∙ ap (λ x. is_handed_on o p && each_is_handed_on x (parts_drop (suc i) us)) (drop-others ps (suc i))
handed-step ps (gap us) (suc i) o p l e f =
    ap (λ x. each_is_handed_on x (parts_drop i us)) (sym (drop-others ps i)) ∙ handed-step (others ps) us i o p (omega (arith, l)) (e ∙ sym (at-others ps i)) f
    ∙ ap (λ x. is_handed_on o p && each_is_handed_on x (parts_drop (suc i) us)) (drop-others ps (suc i))

handed-past : (ps qs : Parts) (i : ℕ) → part_count qs ≤ i → each_is_handed_on ps (parts_drop i qs) ≡ true
unfolding each_is_handed_on
handed-past ps none zero l = refl
handed-past ps none (suc i) l = refl
handed-past ps (part u us) zero l = absurd (omega (arith, l))
handed-past ps (gap us) zero l = absurd (omega (arith, l))
handed-past ps (part u us) (suc i) l = handed-past ps us i (omega (arith, l))
handed-past ps (gap us) (suc i) l = handed-past ps us i (omega (arith, l))

module _ (ps qs : Parts) (i : ℕ) (so : each_is_handed_on (parts_drop i ps) (parts_drop i qs) ≡ each_is_handed_on ps qs) where
  pub handed-not : (o p : Option Tree) → i < part_count qs → o ≡ part_at ps i → p ≡ part_at qs i → is_handed_on o p ≡ false → false ≡ each_is_handed_on ps qs
  handed-not o p l e f h = sym (ap (λ b. b && each_is_handed_on (parts_drop (suc i) ps) (parts_drop (suc i) qs)) h) ∙ sym (handed-step ps qs i o p l e f) ∙ so

  pub handed-turn : (o p : Option Tree) → i < part_count qs → o ≡ part_at ps i → p ≡ part_at qs i → is_handed_on o p ≡ true →
      each_is_handed_on (parts_drop (i + 1) ps) (parts_drop (i + 1) qs) ≡ each_is_handed_on ps qs
  handed-turn o p l e f h = rw (add-one i) (sym (ap (λ b. b && each_is_handed_on (parts_drop (suc i) ps) (parts_drop (suc i) qs)) h) ∙ sym (handed-step ps qs i o p l e f) ∙ so)

  pub handed-end : part_count qs ≤ i → true ≡ each_is_handed_on ps qs
  handed-end l = sym (handed-past (parts_drop i ps) qs i l) ∙ so
