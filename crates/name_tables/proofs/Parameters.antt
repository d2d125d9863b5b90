-- A function's parameters, as loops over its parts go: all but the last, which is the body.
use Rattle.std.proofs.Common.{◌≡◌, ℕ, zero, suc, ◌+◌, ◌-◌, ◌<◌, ◌≤◌, [], ◌++◌, Option, refl, sym, ap, arith, add-one}
use Rattle.tree.specs.Tree.{Tree, Parts, none, part, gap, part_at, part_count, parts_drop}
use Rattle.name_tables.specs.BoundNames.{bound_names}
use Rattle.name_tables.specs.DeclaredNames.{parameter_names}
use Rattle.name_tables.specs.PatternParts.{at_part}

module _ {B : Type 0} (f : Tree → B) where
  more-parameters : (ps : Parts) (i : ℕ) (o : Option Tree) → suc i < part_count ps → o ≡ part_at ps i → parameter_names f (parts_drop i ps) ≡ at_part (bound_names f) o ++ parameter_names f (parts_drop (suc i) ps)
  more-parameters none i o l e = absurd (omega (arith, l))
  more-parameters (part t none) zero o l e = absurd (omega (arith, l))
  more-parameters (part t (part u ps)) zero o l e = ap (λ p. at_part (bound_names f) p ++ parameter_names f (part u ps)) (sym e)
  more-parameters (part t (gap ps)) zero o l e = ap (λ p. at_part (bound_names f) p ++ parameter_names f (gap ps)) (sym e)
  more-parameters (gap ps) zero o l e = ap (λ p. at_part (bound_names f) p ++ parameter_names f ps) (sym e)
  more-parameters (part t ps) (suc i) o l e = more-parameters ps i o (omega (arith, l)) e
  more-parameters (gap ps) (suc i) o l e = more-parameters ps i o (omega (arith, l)) e

  no-parameters : (ps : Parts) (i : ℕ) → part_count ps ≤ suc i → parameter_names f (parts_drop i ps) ≡ []
  no-parameters none zero l = refl
  no-parameters none (suc i) l = refl
  no-parameters (part t none) zero l = refl
  no-parameters (part t (part u ps)) zero l = absurd (omega (arith, l))
  no-parameters (part t (gap ps)) zero l = absurd (omega (arith, l))
  no-parameters (gap none) zero l = refl
  no-parameters (gap (part u ps)) zero l = absurd (omega (arith, l))
  no-parameters (gap (gap ps)) zero l = absurd (omega (arith, l))
  no-parameters (part t ps) (suc i) l = no-parameters ps i (omega (arith, l))
  no-parameters (gap ps) (suc i) l = no-parameters ps i (omega (arith, l))

  pub parameters-step : (ps : Parts) (i : ℕ) (o : Option Tree) → i < part_count ps - 1 → o ≡ part_at ps i → parameter_names f (parts_drop i ps) ≡ at_part (bound_names f) o ++ parameter_names f (parts_drop (i + 1) ps)
  parameters-step ps i o l e = rw (add-one i) (more-parameters ps i o (omega (arith, l)) e)

  pub parameters-past : (ps : Parts) (i : ℕ) → part_count ps - 1 ≤ i → parameter_names f (parts_drop i ps) ≡ []
  parameters-past ps i l = no-parameters ps i (omega (arith, l))
