use Rattle.std.proofs.Common.{◌∙◌, inl, refl}
use Rattle.commands.specs.declared.command.Command.TheVariants.{Check}
use Rattle.lint.specs.ReadScripts.{IsReading}
use Rattle.lint.proofs.CheckAnswers.{check_answers, check_unread}
use Rattle.lint.proofs.RunAnswers.{check_refuses}
use Rattle.lint.proofs.check_command.check.Goals as goal

pub returns-in-Err-clause-answer : goal.returns-in-Err-clause-answer
returns-in-Err-clause-answer g c = λ seen before. check_refuses _ (Check c.args.form) tt c.args.choice c.args.source.now _ c.in-Err.refused c.refusal.result _ seen c.requires.source c.refusal.ensures c.in-Err.ensures before

pub returns-in-Err-read_script-clause-answer : goal.returns-in-Err-read_script-clause-answer
returns-in-Err-read_script-clause-answer g c = λ seen before.
    rw (c.refused_at.ensures.fault, c.refused_at.ensures.first)
    (check_unread _ (Check c.args.form) tt c.args.choice c.args.source.now _ c.in-Ok.checked c.in-Err-read_script.fault _ _ _ seen c.requires.source c.in-Ok.ensures c.in-Err-read_script.ensures.refused c.refused_at.ensures.place c.refused_at.ensures.hint before)

pub returns-in-Ok-report-clause-answer : goal.returns-in-Ok-report-clause-answer
returns-in-Ok-report-clause-answer g c =
    let parsed = c.in-Ok-read_script.parsed in
    let reading : IsReading c.in-Ok.checked.language c.args.source.now parsed.program parsed.pairs.items = record { accepted = c.in-Ok-read_script.ensures.accepted; only = c.in-Ok-read_script.ensures.only } in
    check_answers _ c.args.form c.args.choice c.args.source.now parsed.program parsed.pairs.items _ c.in-Ok.checked c.in-Ok-report.answer _ c.requires.source reading c.in-Ok.ensures (c.in-Ok-report.ensures.lines c.in-Ok.checked.language)

pub returns-clause-answer : goal.returns-clause-answer
returns-clause-answer g c = λ seen before. rw c.at_no_place.ensures (inl (before.reader, before.of_failed ∙ c.in-Ok.ensures.0.0, before.writer), before.kept, (refl, refl))
