use Rattle.std.proofs.lemmas.Bool.{ne_eqb}
use Rattle.std.proofs.lemmas.Str.{IsCharBoundary-start}
use Rattle.tokens.proofs.Hashbangs.{nothing_there, one_alone, other_first, other_second, line_there}
use Rattle.tokens.proofs.trivia.hashbang_end.Goals as goal

pub char_at-requires : goal.char_at-requires
char_at-requires c = IsCharBoundary-start c.args.text.now c.utf8.text

pub returns-in_default-clause-value : goal.returns-in_default-clause-value
returns-in_default-clause-value c = nothing_there c.args.text.now c.in_default.ensures.none

pub returns-in_default-clause-place : goal.returns-in_default-clause-place
returns-in_default-clause-place c = IsCharBoundary-start c.args.text.now c.utf8.text

pub returns-then-first-ne35-clause-value : goal.returns-then-first-ne35-clause-value
returns-then-first-ne35-clause-value c = other_first c.args.text.now c.in-Some.first.end c.in-Some.first.c c.in-Some.ensures.some (ne_eqb c.in-Some.first.c 35 c.if-first-ne35.true)

pub returns-then-first-ne35-clause-place : goal.returns-then-first-ne35-clause-place
returns-then-first-ne35-clause-place c = IsCharBoundary-start c.args.text.now c.utf8.text

pub returns-in_default-char_at-clause-value : goal.returns-in_default-char_at-clause-value
returns-in_default-char_at-clause-value c = one_alone c.args.text.now c.in-Some.first.end c.in-Some.first.c c.in-Some.ensures.some c.in_default-char_at.ensures.none

pub returns-in_default-char_at-clause-place : goal.returns-in_default-char_at-clause-place
returns-in_default-char_at-clause-place c = IsCharBoundary-start c.args.text.now c.utf8.text

pub returns-then-second-ne33-clause-value : goal.returns-then-second-ne33-clause-value
returns-then-second-ne33-clause-value c =
    other_second c.args.text.now c.in-Some.first.end c.in-Some-char_at.second.end c.in-Some.first.c c.in-Some-char_at.second.c c.in-Some.ensures.some c.in-Some-char_at.ensures.some
    (ne_eqb c.in-Some-char_at.second.c 33 c.if-second-ne33.true)

pub returns-then-second-ne33-clause-place : goal.returns-then-second-ne33-clause-place
returns-then-second-ne33-clause-place c = IsCharBoundary-start c.args.text.now c.utf8.text

pub returns-clause-value : goal.returns-clause-value
returns-clause-value c =
    line_there c.args.text.now c.in-Some.first.end c.in-Some-char_at.second.end c.line_end.result c.in-Some.first.c c.in-Some-char_at.second.c c.in-Some.ensures.some c.in-Some-char_at.ensures.some
    c.if-first-ne35.false c.if-second-ne33.false c.line_end.ensures

pub returns-clause-place : goal.returns-clause-place
returns-clause-place c = c.line_end.ensures.run.passed.place
