use Rattle.std.proofs.Common.{◌+◌, sym, ap, ◌∙◌}
use Rattle.std.specs.Prelude.{option_map}
use Rattle.std.specs.Str.{chars}
use Rattle.std.proofs.lemmas.Str.{IsCharBoundary-start}
use Rattle.regular_expressions.specs.Patterns.{pattern_fault}
use Rattle.regular_expressions.proofs.SlashSteps.{literal_fault}
use Rattle.regular_expressions.proofs.literal.first_fault.Goals as goal

pub char_at-requires : goal.char_at-requires
char_at-requires c = IsCharBoundary-start c.args.literal.now c.utf8.literal

pub returns-in-Some-2 : goal.returns-in-Some-2
returns-in-Some-2 c =
    let slash = c.in-Some-last_slash.slash in
    ap (λ f. option_map (λ place. c.in-Some.first.end + place) f) (sym c.in-Some-2.is)
    ∙ literal_fault c.args.literal.now c.in-Some.first.end slash.at c.in-Some.first.c slash.has_u c.in_ok-place.field-0 c.utf8.literal c.in-Some.ensures.some
    c.in-Some-last_slash.ensures.pattern c.in-Some-last_slash.ensures.flags (c.in_ok-place.ensures.fault ∙ ap (λ x. pattern_fault slash.has_u (chars x)) c.range.ensures.value)

pub returns-in-None : goal.returns-in-None
returns-in-None c =
    let slash = c.in-Some-last_slash.slash in
    ap (λ f. option_map (λ place. c.in-Some.first.end + place) f) (sym c.in-None.is)
    ∙ literal_fault c.args.literal.now c.in-Some.first.end slash.at c.in-Some.first.c slash.has_u c.in_ok-place.field-0 c.utf8.literal c.in-Some.ensures.some
    c.in-Some-last_slash.ensures.pattern c.in-Some-last_slash.ensures.flags (c.in_ok-place.ensures.fault ∙ ap (λ x. pattern_fault slash.has_u (chars x)) c.range.ensures.value)
