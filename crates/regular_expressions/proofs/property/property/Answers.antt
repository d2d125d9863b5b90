use Rattle.std.proofs.Common.{[], ◌∷◌, slice_range, subst, sym, ◌∙◌}
use Rattle.tokens.specs.Scanned.{Passed}
use Rattle.regular_expressions.specs.PropertyNames.{is_property_character}
use Rattle.regular_expressions.proofs.Words.{property_is_ascii, run_part, property_open, property_other, property_unknown, property_known}
use Rattle.regular_expressions.proofs.property.property.Goals as goal
use Rattle.regular_expressions.proofs.property.property.Goals.{then-close-ne125-via-then-close-ne125, then-close-ne125-via-else-close-ne125+then-not-is_property}

pub returns-in_default-char_at-clause-none : goal.returns-in_default-char_at-clause-none
returns-in_default-char_at-clause-none c =
    let text = c.args.text.now in
    let p = subst (λ x. Passed text c.args.at c.in-Some.brace.end (x ∷ [])) c.if-brace-ne123.false c.in-Some.ensures.some in
    property_open text c.args.at c.in-Some.brace.end c.property_end-end.result p c.property_end-end.ensures c.in_default-char_at.ensures.none

pub returns-then-close-ne125-clause-none : goal.returns-then-close-ne125-clause-none
returns-then-close-ne125-clause-none c =
    let text = c.args.text.now in
    let p = subst (λ x. Passed text c.args.at c.in-Some.brace.end (x ∷ [])) c.if-brace-ne123.false c.in-Some.ensures.some in
    let stop = c.property_end-end.result in
    let close = c.in-Some-char_at.close in
    let h = c.property_end-end.ensures in
    elim c.then-close-ne125.branch [
      | then-close-ne125-via-then-close-ne125 w ↦ property_other text c.args.at c.in-Some.brace.end stop close.end close.c p h c.in-Some-char_at.ensures.some w.if-close-ne125.true
      | then-close-ne125-via-else-close-ne125+then-not-is_property w ↦
          property_unknown text (slice_range w.as_bytes.result.now c.in-Some.brace.end stop) c.args.at c.in-Some.brace.end stop close.end p h
          (subst (λ x. Passed text stop close.end (x ∷ [])) w.if-close-ne125.false c.in-Some-char_at.ensures.some)
          (run_part is_property_character property_is_ascii text w.as_bytes.result.now c.in-Some.brace.end stop w.as_bytes.ensures.value c.utf8.text c.in-Some.ensures.some.place h)
          (sym w.is_property.ensures ∙ w.if-not-is_property.true)
    ]

pub returns-clause-some : goal.returns-clause-some
returns-clause-some c =
    let text = c.args.text.now in
    let p = subst (λ x. Passed text c.args.at c.in-Some.brace.end (x ∷ [])) c.if-brace-ne123.false c.in-Some.ensures.some in
    let stop = c.property_end-end.result in
    let close = c.in-Some-char_at.close in
    let h = c.property_end-end.ensures in
    property_known text (slice_range c.as_bytes.result.now c.in-Some.brace.end stop) c.args.at c.in-Some.brace.end stop close.end p h
    (subst (λ x. Passed text stop close.end (x ∷ [])) c.if-close-ne125.false c.in-Some-char_at.ensures.some)
    (run_part is_property_character property_is_ascii text c.as_bytes.result.now c.in-Some.brace.end stop c.as_bytes.ensures.value c.utf8.text c.in-Some.ensures.some.place h)
    (sym c.is_property.ensures ∙ c.if-not-is_property.false)
