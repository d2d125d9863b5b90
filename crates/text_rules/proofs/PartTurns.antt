-- What is reported of the parts of a node, one by one.
use Rattle.std.proofs.Common.{◌≡◌, ℕ, zero, suc, ◌+◌, ◌<◌, ◌≤◌, List, [], ◌++◌, Option, arith, refl, sym, ap, ◌∙◌, add-one}
use Rattle.tree.specs.Tree.{Tree, Parts, none, part, gap, part_at, part_count, parts_drop}
use Rattle.rule_words.specs.Reports.{Report}
use Rattle.text_rules.specs.declared.text_rule.TextRule.{TextRule}
use Rattle.text_rules.specs.Found.{of_parts, of_place}
use Rattle.text_rules.specs.Rows.{behind_part}
use Rattle.text_rules.proofs.Turns.{last, turn}

module _ (source : List ℕ) (rule : TextRule) (parent : Tree) (index from : ℕ) where
  step : (ps : Parts) (i : ℕ) (o : Option Tree) → i < part_count ps → o ≡ part_at ps i →
      of_parts source rule parent index from (parts_drop i ps) ≡ of_place source rule parent index from o ++ of_parts source rule parent (index + 1) (behind_part from o) (parts_drop (suc i) ps)
  step none i o l e = absurd (omega (arith, l))
  step (part t ps) zero o l e = ap (λ p. of_place source rule parent index from p ++ of_parts source rule parent (index + 1) (behind_part from p) ps) (sym e)
  step (gap ps) zero o l e = ap (λ p. of_place source rule parent index from p ++ of_parts source rule parent (index + 1) (behind_part from p) ps) (sym e)
  step (part t ps) (suc i) o l e = step ps i o (omega (arith, l)) e
  step (gap ps) (suc i) o l e = step ps i o (omega (arith, l)) e

  pub after-step : (ps : Parts) (i : ℕ) (o : Option Tree) → i < part_count ps → o ≡ part_at ps i →
      of_parts source rule parent index from (parts_drop i ps) ≡ of_place source rule parent index from o ++ of_parts source rule parent (index + 1) (behind_part from o) (parts_drop (i + 1) ps)
  after-step ps i o l e = rw (add-one i) (step ps i o l e)

  pub past : (ps : Parts) (i : ℕ) → part_count ps ≤ i → of_parts source rule parent index from (parts_drop i ps) ≡ []
  past none zero l = refl
  past none (suc i) l = refl
  past (part t ps) zero l = absurd (omega (arith, l))
  past (gap ps) zero l = absurd (omega (arith, l))
  past (part t ps) (suc i) l = past ps i (omega (arith, l))
  past (gap ps) (suc i) l = past ps i (omega (arith, l))

module _ (source : List ℕ) (rule : TextRule) (parent : Tree) (ps : Parts) (i from : ℕ) (old total : List Report) (so : old ++ of_parts source rule parent i from (parts_drop i ps) ≡ total) where
  pub part-turn : (o : Option Tree) (place : ℕ) (new : List Report) → i < part_count ps → o ≡ part_at ps i → place ≡ behind_part from o → new ≡ old ++ of_place source rule parent i from o →
      new ++ of_parts source rule parent (i + 1) place (parts_drop (i + 1) ps) ≡ total
  part-turn o place new l e p n =
      turn old (of_place source rule parent i from o) (of_parts source rule parent (i + 1) place (parts_drop (i + 1) ps)) (of_parts source rule parent i from (parts_drop i ps)) new total n
      (after-step source rule parent i from ps i o l e ∙ ap (λ q. of_place source rule parent i from o ++ of_parts source rule parent (i + 1) q (parts_drop (i + 1) ps)) (sym p))
      so

  pub part-end : part_count ps ≤ i → old ≡ total
  part-end l = last old (of_parts source rule parent i from (parts_drop i ps)) total (past source rule parent i from ps i l) so
