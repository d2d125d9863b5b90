-- Tests of parts, as a loop over parts goes.
use Rattle.std.proofs.Common.{◌≡◌, ℕ, zero, suc, ◌+◌, ◌<◌, ◌≤◌, Bool, true, false, Option, Some, None, refl, sym, ap, ◌∙◌, arith, add-one}
use Rattle.std.specs.Prelude.{◌||◌}
use Rattle.tree.specs.Tree.{Tree, Parts, none, part, gap, part_at, part_count, parts_drop}
use Rattle.node_rules.specs.PartTests.{any_part}

any-step : (f : Option Tree → Bool) (ps : Parts) (i : ℕ) (o : Option Tree) → i < part_count ps → o ≡ part_at ps i → any_part f (parts_drop i ps) ≡ (f o || any_part f (parts_drop (suc i) ps))
unfolding any_part
any-step f none i o l e = absurd (omega (arith, l))
any-step f (part t ps) zero o l e = ap (λ p. f p || any_part f ps) (sym e)
any-step f (gap ps) zero o l e = ap (λ p. f p || any_part f ps) (sym e)
any-step f (part t ps) (suc i) o l e = any-step f ps i o (omega (arith, l)) e
any-step f (gap ps) (suc i) o l e = any-step f ps i o (omega (arith, l)) e

any-past : (f : Option Tree → Bool) (ps : Parts) (i : ℕ) → part_count ps ≤ i → any_part f (parts_drop i ps) ≡ false
unfolding any_part
any-past f none zero l = refl
any-past f none (suc i) l = refl
any-past f (part t ps) zero l = absurd (omega (arith, l))
any-past f (gap ps) zero l = absurd (omega (arith, l))
any-past f (part t ps) (suc i) l = any-past f ps i (omega (arith, l))
any-past f (gap ps) (suc i) l = any-past f ps i (omega (arith, l))

pub any-found : (f : Option Tree → Bool) (ps : Parts) (i : ℕ) (o : Option Tree) → i < part_count ps → o ≡ part_at ps i → f o ≡ true → any_part f (parts_drop i ps) ≡ any_part f ps → true ≡ any_part f ps
any-found f ps i o l e h so = sym (ap (λ b. b || any_part f (parts_drop (suc i) ps)) h) ∙ sym (any-step f ps i o l e) ∙ so

pub any-turn : (f : Option Tree → Bool) (ps : Parts) (i : ℕ) (o : Option Tree) → i < part_count ps → o ≡ part_at ps i → f o ≡ false → any_part f (parts_drop i ps) ≡ any_part f ps → any_part f (parts_drop (i + 1) ps) ≡ any_part f ps
any-turn f ps i o l e h so = rw (add-one i) (sym (ap (λ b. b || any_part f (parts_drop (suc i) ps)) h) ∙ sym (any-step f ps i o l e) ∙ so)

pub any-end : (f : Option Tree → Bool) (ps : Parts) (i : ℕ) → part_count ps ≤ i → any_part f (parts_drop i ps) ≡ any_part f ps → false ≡ any_part f ps
any-end f ps i l so = sym (any-past f ps i l) ∙ so
