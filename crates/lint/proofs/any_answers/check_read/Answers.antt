use Rattle.std.proofs.Common.{inl, inr}
use Rattle.lint.proofs.AnyAnswers.{check_read}
use Rattle.lint.proofs.any_answers.check_read.Goals as goal

pub returns-in-Ok-report-clause-answer : goal.returns-in-Ok-report-clause-answer
returns-in-Ok-report-clause-answer g c = λ language.
    check_read _ c.args.form language c.args.source.now _ _ _ c.in-Ok.settings c.in-Ok-report.answer _ c.in-Ok.ensures (c.in-Ok-report.ensures.lines language)

pub returns-clause-answer : goal.returns-clause-answer
returns-clause-answer g c = λ language. inr (c.in-Ok.ensures.0, inl c.at_no_place.ensures)
