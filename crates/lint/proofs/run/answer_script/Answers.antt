use Rattle.std.proofs.Common.{[]}
use Rattle.commands.specs.declared.language_choice.LanguageChoice.TheVariants.{Unsaid}
use Rattle.lint.specs.ReadScripts.{IsReading}
use Rattle.lint.proofs.RunAnswers.{answers_behind, own_tried, refused_behind, same_behind, script_refused, told_behind}
use Rattle.lint.proofs.run.answer_script.Goals as goal

pub returns-in-Err-clause-answer : goal.returns-in-Err-clause-answer
returns-in-Err-clause-answer g c = λ finds choice own seen before.
    rw (c.refused_at.ensures.fault, c.refused_at.ensures.first)
    (script_refused finds c.args.command choice c.args.source.now _ c.args.language c.in-Err.fault _ _ _ seen c.requires.source c.in-Err.ensures.refused c.refused_at.ensures.place c.refused_at.ensures.hint before
    (own_tried finds c.args.command choice c.args.source.now _ c.args.language _ seen c.requires.unchecked c.requires.unmended own before c.requires.ready))

pub returns-in-Same-clause-answer : goal.returns-in-Same-clause-answer
returns-in-Same-clause-answer g c = λ finds choice own.
    let parsed = c.in-Ok.parsed in
    let reading : IsReading c.args.language c.args.source.now parsed.program parsed.pairs.items = record { accepted = c.in-Ok.ensures.accepted; only = c.in-Ok.ensures.only } in
    same_behind finds c.args.command choice c.args.source.now _ c.args.language parsed.program parsed.pairs.items c.same.result _ c.in-Same.is own c.requires.source reading c.same.ensures.answer

pub returns-in-Ok-answer-clause-answer : goal.returns-in-Ok-answer-clause-answer
returns-in-Ok-answer-clause-answer g c = λ finds choice own.
    let parsed = c.in-Ok.parsed in
    let reading : IsReading c.args.language c.args.source.now parsed.program parsed.pairs.items = record { accepted = c.in-Ok.ensures.accepted; only = c.in-Ok.ensures.only } in (
      (c.in-Ok-answer.ensures.answer (λ view. [])).0,
      λ given read. answers_behind finds c.args.command choice c.args.source.now _ c.args.language parsed.program parsed.pairs.items c.in-Ok-answer.answer _ given own
          c.requires.unchecked c.requires.unmended c.requires.source reading (c.in-Ok-answer.ensures.answer finds) read,
    )

pub returns-clause-answer : goal.returns-clause-answer
returns-clause-answer g c = λ finds choice own seen before.
    let parsed = c.in-Ok.parsed in
    let reading : IsReading c.args.language c.args.source.now parsed.program parsed.pairs.items = record { accepted = c.in-Ok.ensures.accepted; only = c.in-Ok.ensures.only } in
    rw c.at_no_place.ensures
    (refused_behind finds c.args.command choice c.args.source.now _ c.args.language parsed.program parsed.pairs.items c.in-Err-answer.fault _ seen own c.requires.source reading c.in-Err-answer.ensures.answer before)

pub returns-clause-told : goal.returns-clause-told
returns-clause-told g c =
    let parsed = c.in-Ok.parsed in
    rw c.at_no_place.ensures
    (told_behind (λ view. []) c.args.command Unsaid c.args.source.now _ c.args.language parsed.program parsed.pairs.items c.in-Err-answer.fault _ c.args.source.now (c.in-Err-answer.ensures.answer (λ view. [])))
