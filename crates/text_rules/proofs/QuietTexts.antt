-- A rule reports no character of a text that hasn't what it may report.
use Rattle.std.proofs.Common.{◌≡◌, ℕ, ◌+◌, ◌<◌, Bool, true, false, List, [], ◌∷◌, ◌++◌, length, get_or, refl, sym, ap, ◌∙◌, append-nil, arith}
use Rattle.std.specs.Prelude.{not, ◌&&◌, ◌||◌}
use Rattle.std.specs.List.{list_all, list_any}
use Rattle.std.specs.Str.{IsUtf8}
use Rattle.std.proofs.lemmas.Bool.{false≢true}
use Rattle.std.proofs.lemmas.Bool.Decides.{nat_tests}
use Rattle.source_text.specs.Lines.{is_line_terminator}
use Rattle.tokens.specs.Reading.{behind}
use Rattle.tokens.specs.Scanned.{AllPass, Passed}
use Rattle.tokens.specs.Tokens.{size}
use Rattle.tokens.proofs.TriviaSteps.{over_byte}
use Rattle.rule_words.specs.Reports.{Report}
use Rattle.text_rules.specs.declared.reading.Reading.{Reading}
use Rattle.text_rules.specs.declared.text_rule.TextRule.{TextRule}
use Rattle.text_rules.specs.declared.text_rule.TextRule.TheVariants.{NoCondAssign, NoIrregularWhitespace, NoSequences, NoUnexpectedMultiline}
use Rattle.text_rules.specs.Quiet.{is_quiet, may_mark}
use Rattle.text_rules.specs.Readings.{after, opens, start}
use Rattle.text_rules.specs.Rows.{is_irregular, marked, report_if}
use Rattle.text_rules.specs.Spots.{is_outside, is_token}

none-true : (a b : Bool) → (a || b) ≡ false → (a ≡ false) × (b ≡ false)
none-true false b h = (refl, h)
none-true true b h = absurd (false≢true (sym h))

-- ---- what isn't there is not reported

last-false : (a b : Bool) → b ≡ false → (a && b) ≡ false
last-false true b h = h
last-false false b h = refl

none-irregular : (r : Reading) (at : ℕ) (cs : List ℕ) → list_any is_irregular cs ≡ false → marked NoIrregularWhitespace r at cs ≡ []
none-irregular r at [] h = refl
none-irregular r at (c ∷ cs) h =
    let parts = none-true _ _ h in
    ap (λ b. report_if b NoIrregularWhitespace at (at + size (c ∷ [])) ++ marked NoIrregularWhitespace (after r c) (at + size (c ∷ [])) cs) (last-false (is_outside r.spot c) (is_irregular c) parts.0)
    ∙ none-irregular (after r c) (at + size (c ∷ [])) cs parts.1

module _ where
  not-marked : (t o b d : Bool) → b ≡ false → (t && (o && (b && not d))) ≡ false
  not-marked true true b d h = ap (λ x. x && not d) h
  not-marked true false b d h = refl
  not-marked false o b d h = refl

  stays : (l b t : Bool) → l ≡ false → b ≡ false → (l || (b && not t)) ≡ false
  stays false b t g h = ap (λ x. x && not t) h
  stays true b t g h = absurd (false≢true (sym g))

none-broken : (r : Reading) (at : ℕ) (cs : List ℕ) → r.broken ≡ false → list_any is_line_terminator cs ≡ false → marked NoUnexpectedMultiline r at cs ≡ []
none-broken r at [] b h = refl
none-broken r at (c ∷ cs) b h =
    let parts = none-true _ _ h in
    ap (λ m. report_if m NoUnexpectedMultiline at (at + size (c ∷ [])) ++ marked NoUnexpectedMultiline (after r c) (at + size (c ∷ [])) cs)
    (not-marked (is_token r.spot c) (opens c) r.broken r.opened b)
    ∙ none-broken (after r c) (at + size (c ∷ [])) cs (stays (is_line_terminator c) r.broken (is_token r.spot c) parts.0 b) parts.1

none-marked : (r : Reading) (at : ℕ) (cs : List ℕ) → marked NoCondAssign r at cs ≡ []
none-marked r at [] = refl
none-marked r at (c ∷ cs) = none-marked (after r c) (at + size (c ∷ [])) cs

pub nothing-marked : (rule : TextRule) (at : ℕ) (cs : List ℕ) → may_mark rule cs ≡ false → marked rule start at cs ≡ []
nothing-marked NoCondAssign at cs h = none-marked start at cs
nothing-marked NoIrregularWhitespace at cs h = none-irregular start at cs h
nothing-marked NoSequences at cs h = absurd (false≢true (sym h))
nothing-marked NoUnexpectedMultiline at cs h = none-broken start at cs refl h

pub unread : (rule : TextRule) (at : ℕ) (cs : List ℕ) (old : List Report) → may_mark rule cs ≡ false → old ≡ old ++ marked rule start at cs
unread rule at cs old h = sym (append-nil old) ∙ ap (λ l. old ++ l) (sym (nothing-marked rule at cs h))

-- ---- runs of quiet characters

pub over_quiet : (text bytes : List ℕ) (at stop : ℕ) → IsUtf8 text → bytes ≡ text → AllPass is_quiet text at stop → stop < length bytes → is_quiet (get_or bytes stop 0) ≡ true →
    AllPass is_quiet text at (stop + 1)
over_quiet text bytes at stop u e h lt t = over_byte is_quiet text bytes at stop u e h lt (low (get_or bytes stop 0) t) t where
  low : (c : ℕ) → is_quiet c ≡ true → c < 128
  low c t = grind (arith, nat_tests)

both-true : (a b : Bool) → (a && b) ≡ true → (a ≡ true) × (b ≡ true)
both-true true b h = (refl, h)
both-true false b h = absurd (false≢true h)

-- a test that no quiet character passes
module _ (test : ℕ → Bool) (fails : (c : ℕ) → is_quiet c ≡ true → test c ≡ false) where
  over-word : (word rest : List ℕ) → list_all is_quiet word ≡ true → list_any test (word ++ rest) ≡ list_any test rest
  over-word [] rest h = refl
  over-word (c ∷ word) rest h =
      let parts = both-true _ _ h in
      ap (λ b. b || list_any test (word ++ rest)) (fails c parts.0) ∙ over-word word rest parts.1

  pub over-run : (text : List ℕ) (at stop : ℕ) → AllPass is_quiet text at stop → list_any test (behind text at) ≡ list_any test (behind text stop)
  over-run text at stop h = ap (list_any test) h.passed.split ∙ over-word h.word (behind text stop) h.all

  pub over-step : (text : List ℕ) (at stop more c : ℕ) → Passed text at stop (c ∷ []) → test c ≡ false → AllPass is_quiet text stop more → list_any test (behind text at) ≡ list_any test (behind text more)
  over-step text at stop more c p f h = ap (list_any test) p.split ∙ ap (λ b. b || list_any test (behind text stop)) f ∙ over-run text stop more h

pub found-at : (test : ℕ → Bool) (text : List ℕ) (at stop c : ℕ) → Passed text at stop (c ∷ []) → test c ≡ true → list_any test (behind text at) ≡ true
found-at test text at stop c p t = ap (list_any test) p.split ∙ ap (λ b. b || list_any test (behind text stop)) t

pub regular : (c : ℕ) → is_quiet c ≡ true → is_irregular c ≡ false
regular c h = grind (arith, nat_tests)

pub no-line : (c : ℕ) → is_quiet c ≡ true → is_line_terminator c ≡ false
no-line c h = grind (arith, nat_tests)
