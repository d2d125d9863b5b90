use Rattle.std.proofs.Common.{inl, inr}
use Rattle.lint.proofs.AnyAnswers.{mend_read}
use Rattle.lint.proofs.any_answers.mend_read.Goals as goal

pub returns-in-Ok-mended-clause-answer : goal.returns-in-Ok-mended-clause-answer
returns-in-Ok-mended-clause-answer g c =
    mend_read _ c.args.language c.args.source.now c.args.parsed.now.program c.args.parsed.now.pairs.items _ c.in-Ok.settings c.in-Ok-mended.answer _ c.in-Ok.ensures c.in-Ok-mended.ensures.mended c.in-Ok-mended.ensures.status

pub returns-clause-answer : goal.returns-clause-answer
returns-clause-answer g c = inr (c.in-Ok.ensures.0, inl c.at_no_place.ensures)
