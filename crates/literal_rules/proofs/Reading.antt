-- Where in a text is what a rule looks for, as loops go over its bytes.
use Rattle.std.proofs.Common.{◌≡◌, ℕ, suc, ◌+◌, ◌<◌, ◌≤◌, List, ◌∷◌, ◌++◌, true, false, length, drop, get_or, Option, Some, None, sym, ap, ◌∙◌, add-one, append_assoc, append-nil}
use Rattle.std.specs.Prelude.{cond}
use Rattle.std.proofs.Math.Seq.{drop-cons}
use Rattle.std.proofs.lemmas.List.{drop_all}
use Rattle.rule_words.specs.Reports.{Report}
use Rattle.literal_rules.specs.declared.literal_rule.LiteralRule.{LiteralRule}
use Rattle.literal_rules.specs.declared.text_state.TextState.{TextState}
use Rattle.literal_rules.specs.Marks.{each_mark, first_mark, report_if}
use Rattle.literal_rules.specs.Rows.{is_marked}
use Rattle.literal_rules.specs.TextStates.{next_state}

-- the byte at a place stands next
split : (bs : List ℕ) (i d : ℕ) → i < length bs → drop i bs ≡ get_or bs i d ∷ drop (suc i) bs
split bs i d l = drop-cons bs i d l

module _ (rule : LiteralRule) (state : TextState) (bs : List ℕ) (i : ℕ) where
  module _ (total : Option ℕ) (so : first_mark rule state i (drop i bs) ≡ total) where
    module _ (l : i < length bs) where
      begun : (d : ℕ) → cond (is_marked rule state (drop i bs)) (Some i) (first_mark rule (next_state state (get_or bs i d)) (i + 1) (drop (suc i) bs)) ≡ total
      begun d =
          ap (λ ys. cond (is_marked rule state ys) (Some i) (first_mark rule (next_state state (get_or bs i d)) (i + 1) (drop (suc i) bs))) (split bs i d l)
          ∙ ap (first_mark rule state i) (sym (split bs i d l)) ∙ so

      pub mark-here : is_marked rule state (drop i bs) ≡ true → Some i ≡ total
      mark-here h = sym (ap (λ b. cond b (Some i) (first_mark rule (next_state state (get_or bs i 0)) (i + 1) (drop (suc i) bs))) h) ∙ begun 0

      pub mark-turn : (d : ℕ) (new : TextState) → new ≡ next_state state (get_or bs i d) → is_marked rule state (drop i bs) ≡ false → first_mark rule new (i + 1) (drop (i + 1) bs) ≡ total
      mark-turn d new s h =
          ap (λ q. first_mark rule q (i + 1) (drop (i + 1) bs)) s
          ∙ ap (λ n. first_mark rule (next_state state (get_or bs i d)) (i + 1) (drop n bs)) (add-one i)
          ∙ sym (ap (λ b. cond b (Some i) (first_mark rule (next_state state (get_or bs i d)) (i + 1) (drop (suc i) bs))) h) ∙ begun d

    pub mark-end : length bs ≤ i → None ≡ total
    mark-end l = ap (first_mark rule state i) (sym (drop_all i bs l)) ∙ so

  module _ (at : ℕ) (acc total : List Report) (so : acc ++ each_mark rule state at (drop i bs) ≡ total) where
    pub marks-turn : (d next : ℕ) (after : TextState) (new : List Report) → i < length bs → next ≡ at + 1 → after ≡ next_state state (get_or bs i d) →
        new ≡ acc ++ report_if (is_marked rule state (drop i bs)) rule at → new ++ each_mark rule after next (drop (i + 1) bs) ≡ total
    marks-turn d next after new l e s n =
        let rest : List Report = each_mark rule (next_state state (get_or bs i d)) (at + 1) (drop (suc i) bs) in
        ap (λ q. new ++ each_mark rule q next (drop (i + 1) bs)) s
        ∙ ap (λ m. new ++ each_mark rule (next_state state (get_or bs i d)) next (drop m bs)) (add-one i)
        ∙ ap (λ m. new ++ each_mark rule (next_state state (get_or bs i d)) m (drop (suc i) bs)) e
        ∙ ap (λ a. a ++ rest) n ∙ append_assoc acc (report_if (is_marked rule state (drop i bs)) rule at) rest
        ∙ ap (λ ys. acc ++ (report_if (is_marked rule state ys) rule at ++ rest)) (split bs i d l)
        ∙ ap (λ ys. acc ++ each_mark rule state at ys) (sym (split bs i d l)) ∙ so

    pub marks-end : length bs ≤ i → acc ≡ total
    marks-end l = sym (append-nil acc) ∙ ap (λ ys. acc ++ each_mark rule state at ys) (sym (drop_all i bs l)) ∙ so
