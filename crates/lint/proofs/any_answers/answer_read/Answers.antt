use Rattle.std.proofs.Common.{[], inl}
use Rattle.commands.specs.declared.command.Command.TheVariants.{Check, Mend}
use Rattle.lint.proofs.AnyAnswers.{same_is_read, under_is_read}
use Rattle.lint.proofs.PlannedScripts.{reading_script}
use Rattle.lint.proofs.RunAnswers.{told_behind}
use Rattle.commands.specs.declared.language_choice.LanguageChoice.TheVariants.{Unsaid}
use Rattle.lint.proofs.any_answers.answer_read.Goals as goal

pub check_read-requires-clause-script : goal.check_read-requires-clause-script
check_read-requires-clause-script g c = reading_script c.args.language c.args.source.now _ _ c.requires.reading c.requires.source.1

pub returns-in-Check-clause-answer : goal.returns-in-Check-clause-answer
returns-in-Check-clause-answer g c = under_is_read _ c.args.command (Check c.in-Check.form) c.args.language c.args.source.now _ _ _ c.check_read.result _ c.in-Check.is tt (c.check_read.ensures.answer c.args.language)

pub returns-in-Mend-clause-answer : goal.returns-in-Mend-clause-answer
returns-in-Mend-clause-answer g c = under_is_read _ c.args.command Mend c.args.language c.args.source.now _ _ _ c.mend_read.result _ c.in-Mend.is tt c.mend_read.ensures.answer

pub returns-in-Same-clause-answer : goal.returns-in-Same-clause-answer
returns-in-Same-clause-answer g c = same_is_read _ c.args.command c.args.language c.args.source.now _ _ _ c.same.result _ c.in-Same.is c.same.ensures.answer

pub returns-in-Ok-clause-answer : goal.returns-in-Ok-clause-answer
returns-in-Ok-clause-answer g c = c.in-Ok.ensures.answer _

pub returns-clause-answer : goal.returns-clause-answer
returns-clause-answer g c = inl (c.in-Err.fault, c.at_no_place.ensures, c.in-Err.ensures.answer (λ view. []))

pub returns-clause-told : goal.returns-clause-told
returns-clause-told g c =
    rw c.at_no_place.ensures
    (told_behind (λ view. []) c.args.command Unsaid c.args.source.now _ c.args.language _ _ c.in-Err.fault _ c.args.source.now (c.in-Err.ensures.answer (λ view. [])))
