use Rattle.std.proofs.Common.{◌≡◌, ℕ, [], ◌∷◌, Bool, true, false, not, ◌&&◌, ◌==◌, sym, ap, ◌∙◌, arith}
use Rattle.std.proofs.lemmas.Bool.Decides.{nat_tests}
use Rattle.tokens.specs.Scanned.{Passed}
use Rattle.tokens.proofs.Punctuators.{Four, first_look, found_four, found_three, found_two, found_one, found_none, found_alone, found_plain, digit_is}
use Rattle.tokens.proofs.punctuator.punctuator_end.Goals as goal
use Rattle.tokens.proofs.punctuator.punctuator_end.Goals.{After-char_or_nul-e}

seen : (c : After-char_or_nul-e) (at : ℕ) → Passed c.args.text.now at c.args.b.end (c.args.b.c ∷ []) →
    Four c.args.text.now at c.args.b.c c.char_or_nul-c.result.c c.char_or_nul-d.result.c c.char_or_nul-e.result.c c.args.b.end c.char_or_nul-c.result.end c.char_or_nul-d.result.end c.char_or_nul-e.result.end
seen c at p = record { one = first_look c.args.text.now at c.args.b.end c.args.b.c p; two = c.char_or_nul-c.ensures; three = c.char_or_nul-d.ensures; four = c.char_or_nul-e.ensures }

same_pair : (p q k x y : Bool) → p ≡ q → x ≡ y → (p && not (k && x)) ≡ (q && not (k && y))
same_pair p q k x y e f = ap (λ a. a && not (k && x)) e ∙ ap (λ b. q && not (k && b)) f

pub returns-then-is_single_punctuator-clause-some : goal.returns-then-is_single_punctuator-clause-some
returns-then-is_single_punctuator-clause-some c = λ at p. found_alone c.args.text.now at c.args.b.c c.args.b.end c.utf8.text (first_look c.args.text.now at c.args.b.end c.args.b.c p) (sym c.is_single_punctuator.ensures ∙ c.if-is_single_punctuator.true)

pub returns-then-is_single-goes_on-clause-some : goal.returns-then-is_single-goes_on-clause-some
returns-then-is_single-goes_on-clause-some c = λ at p.
    let h = split c.is_single.result c.goes_on.result c.if-is_single-goes_on.true in
    found_plain c.args.text.now at c.args.b.c c.char_or_nul-c.result.c c.args.b.end c.char_or_nul-c.result.end c.utf8.text (first_look c.args.text.now at c.args.b.end c.args.b.c p) c.char_or_nul-c.ensures
    (sym c.is_single.ensures ∙ h.0) (sym c.goes_on.ensures ∙ h.1) where
      split : (a b : Bool) → (a && not b) ≡ true → (a ≡ true) × (b ≡ false)
      split a b h = (grind (arith, nat_tests), grind (arith, nat_tests))

pub returns-then-is_quadruple-clause-some : goal.returns-then-is_quadruple-clause-some
returns-then-is_quadruple-clause-some c = λ at p.
    found_four _ _ _ _ _ _ _ _ _ _ (seen (goal.at.returns-then-is_quadruple-clause-some c).After-char_or_nul-e at p) (sym c.is_quadruple.ensures ∙ c.if-is_quadruple.true)

pub returns-then-is_triple-clause-some : goal.returns-then-is_triple-clause-some
returns-then-is_triple-clause-some c = λ at p.
    found_three _ _ _ _ _ _ _ _ _ _ (seen (goal.at.returns-then-is_triple-clause-some c).After-char_or_nul-e at p) (sym c.is_quadruple.ensures ∙ c.if-is_quadruple.false) (sym c.is_triple.ensures ∙ c.if-is_triple.true)

pub returns-then-is_pair-chains-clause-some : goal.returns-then-is_pair-chains-clause-some
returns-then-is_pair-chains-clause-some c = λ at p.
    found_two _ _ _ _ _ _ _ _ _ _ (seen (goal.at.returns-then-is_pair-chains-clause-some c).After-char_or_nul-e at p) (sym c.is_quadruple.ensures ∙ c.if-is_quadruple.false) (sym c.is_triple.ensures ∙ c.if-is_triple.false)
    (sym (same_pair _ _ ((c.args.b.c == 63) && (c.char_or_nul-c.result.c == 46)) _ _ c.is_pair.ensures (c.is_ascii_digit.ensures.value ∙ digit_is c.char_or_nul-d.result.c)) ∙ c.if-is_pair-chains.true)

pub returns-then-is_single-b-clause-some : goal.returns-then-is_single-b-clause-some
returns-then-is_single-b-clause-some c = λ at p.
    found_one _ _ _ _ _ _ _ _ _ _ (seen (goal.at.returns-then-is_single-b-clause-some c).After-char_or_nul-e at p) (sym c.is_quadruple.ensures ∙ c.if-is_quadruple.false) (sym c.is_triple.ensures ∙ c.if-is_triple.false)
    (sym (same_pair _ _ ((c.args.b.c == 63) && (c.char_or_nul-c.result.c == 46)) _ _ c.is_pair.ensures (c.is_ascii_digit.ensures.value ∙ digit_is c.char_or_nul-d.result.c)) ∙ c.if-is_pair-chains.false)
    (sym (same_pair _ _ (c.args.b.c == 46) _ _ c.is_single-2.ensures (c.is_ascii_digit-2.ensures.value ∙ digit_is c.char_or_nul-c.result.c)) ∙ c.if-is_single-b.true)

pub returns-clause-none : goal.returns-clause-none
returns-clause-none c = λ at p.
    found_none _ _ _ _ _ _ _ _ _ _ (seen (goal.at.returns-clause-none c).After-char_or_nul-e at p) (sym c.is_quadruple.ensures ∙ c.if-is_quadruple.false) (sym c.is_triple.ensures ∙ c.if-is_triple.false)
    (sym (same_pair _ _ ((c.args.b.c == 63) && (c.char_or_nul-c.result.c == 46)) _ _ c.is_pair.ensures (c.is_ascii_digit.ensures.value ∙ digit_is c.char_or_nul-d.result.c)) ∙ c.if-is_pair-chains.false)
    (sym (same_pair _ _ (c.args.b.c == 46) _ _ c.is_single-2.ensures (c.is_ascii_digit-2.ensures.value ∙ digit_is c.char_or_nul-c.result.c)) ∙ c.if-is_single-b.false)
