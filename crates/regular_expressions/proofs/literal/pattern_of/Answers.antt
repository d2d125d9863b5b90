use Rattle.std.proofs.Common.{ap, ◌∙◌}
use Rattle.std.specs.Str.{chars}
use Rattle.std.proofs.lemmas.Str.{IsCharBoundary-start}
use Rattle.regular_expressions.proofs.SlashSteps.{literal_pattern}
use Rattle.regular_expressions.proofs.literal.pattern_of.Goals as goal

pub char_at-requires : goal.char_at-requires
char_at-requires c = IsCharBoundary-start c.args.literal.now c.utf8.literal

pub returns-clause-text : goal.returns-clause-text
returns-clause-text c =
    let slash = c.in-Some-last_slash.slash in
    ap chars c.range.ensures.value
    ∙ literal_pattern c.args.literal.now c.in-Some.first.end slash.at c.in-Some.first.c c.utf8.literal c.in-Some.ensures.some c.in-Some-last_slash.ensures.pattern
