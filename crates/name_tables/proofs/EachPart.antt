-- What each part of a node gives, as loops over the parts go.
use Rattle.std.proofs.Common.{◌≡◌, ℕ, zero, suc, ◌+◌, ◌*◌, ◌<◌, ◌≤◌, List, [], ◌++◌, Option, None, sym, ap, ◌∙◌, refl, arith, add-one, append_assoc, append-nil}
use Rattle.tree.specs.Tree.{Tree, Parts, none, part, gap, part_at, part_count, parts_drop}
use Rattle.name_tables.specs.PatternParts.{at_part}
use Rattle.name_tables.specs.BoundNames.{each_part}

module _ {B : Type 0} (f : Tree → List B) where
  step : (ps : Parts) (i : ℕ) (o : Option Tree) → i < part_count ps → o ≡ part_at ps i → each_part f (parts_drop i ps) ≡ at_part f o ++ each_part f (parts_drop (suc i) ps)
  step none i o l e = absurd (omega (arith, l))
  step (part t ps) zero o l e = ap (λ p. at_part f p ++ each_part f ps) (sym e)
  step (gap ps) zero o l e = ap (λ p. at_part f p ++ each_part f ps) (sym e)
  step (part t ps) (suc i) o l e = step ps i o (omega (arith, l)) e
  step (gap ps) (suc i) o l e = step ps i o (omega (arith, l)) e

  past : (ps : Parts) (i : ℕ) → part_count ps ≤ i → each_part f (parts_drop i ps) ≡ []
  past none zero l = refl
  past none (suc i) l = refl
  past (part t ps) zero l = absurd (omega (arith, l))
  past (gap ps) zero l = absurd (omega (arith, l))
  past (part t ps) (suc i) l = past ps i (omega (arith, l))
  past (gap ps) (suc i) l = past ps i (omega (arith, l))

  pub drop-step : (ps : Parts) (i : ℕ) (o : Option Tree) → i < part_count ps → o ≡ part_at ps i → each_part f (parts_drop i ps) ≡ at_part f o ++ each_part f (parts_drop (i + 1) ps)
  drop-step ps i o l e = rw (add-one i) (step ps i o l e)

  pub drop-past : (ps : Parts) (i : ℕ) → part_count ps ≤ i → each_part f (parts_drop i ps) ≡ []
  drop-past ps i l = past ps i l

  -- a loop that appends what each part gives
  pub push-turn : (ps : Parts) (i : ℕ) (o : Option Tree) (acc new total : List B) → i < part_count ps → o ≡ part_at ps i → new ≡ acc ++ at_part f o → acc ++ each_part f (parts_drop i ps) ≡ total →
      new ++ each_part f (parts_drop (i + 1) ps) ≡ total
  push-turn ps i o acc new total l e n so =
      ap (λ a. a ++ each_part f (parts_drop (i + 1) ps)) n ∙ append_assoc acc (at_part f o) (each_part f (parts_drop (i + 1) ps)) ∙ ap (λ a. acc ++ a) (sym (drop-step ps i o l e)) ∙ so

  pub push-end : (ps : Parts) (i : ℕ) (acc total : List B) → part_count ps ≤ i → acc ++ each_part f (parts_drop i ps) ≡ total → acc ≡ total
  push-end ps i acc total l so = sym (append-nil acc) ∙ ap (λ a. acc ++ a) (sym (drop-past ps i l)) ∙ so

pub none_at : (ps : Parts) → part_count ps ≡ 0 → (i : ℕ) → None ≡ part_at ps i
none_at none e i = refl
none_at (part t ps) e i = absurd (omega (arith, e))
none_at (gap ps) e i = absurd (omega (arith, e))

-- one turn of a loop that appends
pub appended : {B : Type 0} (acc x old rest new total : List B) → new ≡ acc ++ x → old ≡ x ++ rest → acc ++ old ≡ total → new ++ rest ≡ total
appended acc x old rest new total n o so = ap (λ a. a ++ rest) n ∙ append_assoc acc x rest ∙ ap (λ a. acc ++ a) (sym o) ∙ so
