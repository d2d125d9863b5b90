-- The characters of a text, one by one.
use Rattle.std.proofs.Common.{◌≡◌, ℕ, ◌+◌, List, [], ◌∷◌, ◌++◌, arith, sym, ap, ◌∙◌}
use Rattle.std.specs.Str.{chars}
use Rattle.tokens.specs.Reading.{behind}
use Rattle.tokens.specs.Scanned.{Passed}
use Rattle.tokens.specs.Tokens.{size}
use Rattle.rule_words.specs.Reports.{Report}
use Rattle.text_rules.specs.declared.reading.Reading.{Reading}
use Rattle.text_rules.specs.declared.text_rule.TextRule.{TextRule}
use Rattle.text_rules.specs.Readings.{after, start}
use Rattle.text_rules.specs.Rows.{marked, marks, report_if}
use Rattle.text_rules.proofs.Turns.{last, turn}

pub mark-init : (rule : TextRule) (text : List ℕ) (from : ℕ) (r : Reading) (old : List Report) → r ≡ start → old ++ marked rule r (from + 0) (behind text 0) ≡ old ++ marked rule start from (chars text)
mark-init rule text from r old e =
    let place : from + 0 ≡ from = omega arith in
    ap (λ s. old ++ marked rule s (from + 0) (behind text 0)) e ∙ ap (λ n. old ++ marked rule start n (behind text 0)) place

module _ (rule : TextRule) (text : List ℕ) (from at : ℕ) (r : Reading) (old total : List Report) (so : old ++ marked rule r (from + at) (behind text at) ≡ total) where
  pub mark-turn : (stop c : ℕ) (s : Reading) (new : List Report) → Passed text at stop (c ∷ []) → s ≡ after r c → new ≡ old ++ report_if (marks rule r c) rule (from + at) (from + stop) → new ++ marked rule s (from + stop) (behind text stop) ≡ total
  mark-turn stop c s new p e n =
      let place : from + at + size (c ∷ []) ≡ from + stop = omega (arith, p.reaches) in
      turn old (report_if (marks rule r c) rule (from + at) (from + stop)) (marked rule s (from + stop) (behind text stop)) (marked rule r (from + at) (behind text at)) new total n
      (ap (marked rule r (from + at)) p.split
      ∙ ap (λ n. report_if (marks rule r c) rule (from + at) n ++ marked rule (after r c) n (behind text stop)) place
      ∙ ap (λ s. report_if (marks rule r c) rule (from + at) (from + stop) ++ marked rule s (from + stop) (behind text stop)) (sym e))
      so

  pub mark-end : behind text at ≡ [] → old ≡ total
  mark-end e = last old (marked rule r (from + at) (behind text at)) total (ap (marked rule r (from + at)) e) so
