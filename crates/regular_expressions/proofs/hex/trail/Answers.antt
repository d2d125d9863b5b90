use Rattle.std.proofs.Common.{[], ◌∷◌, subst, sym, ◌∙◌}
use Rattle.tokens.specs.Scanned.{Passed}
use Rattle.regular_expressions.proofs.Escapes.{trail_some}
use Rattle.regular_expressions.proofs.hex.trail.Goals as goal

pub returns-clause-some : goal.returns-clause-some
returns-clause-some c =
    trail_some c.args.text.now c.args.at c.in-Some.first.end c.in-Some-char_at.second.end c.in-Some-hex_digits.digits.end c.in-Some-hex_digits.digits.value
    (subst (λ x. Passed c.args.text.now c.args.at c.in-Some.first.end (x ∷ [])) c.if-first-ne92.false c.in-Some.ensures.some)
    (subst (λ x. Passed c.args.text.now c.in-Some.first.end c.in-Some-char_at.second.end (x ∷ [])) c.if-second-ne117.false c.in-Some-char_at.ensures.some)
    c.in-Some-hex_digits.ensures.some (sym c.is_trail.ensures ∙ c.if-not-is_trail.false)
