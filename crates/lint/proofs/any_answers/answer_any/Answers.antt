use Rattle.std.proofs.Common.{Err, sym, subst}
use Rattle.lint.specs.Run.{IsSource}
use Rattle.lint.proofs.AnyAnswers.{any_of_bytes, bytes_refused, script_answers, text_refused}
use Rattle.lint.proofs.AnyLanguages.{has_place, told_no_usage}
use Rattle.lint.proofs.any_answers.answer_any.Goals as goal

pub returns-in-Err-clause-answer : goal.returns-in-Err-clause-answer
returns-in-Err-clause-answer g c = λ seen before.
    rw c.at_no_place.ensures (bytes_refused _ c.args.command c.args.bytes.now _ c.in-Err.fault _ seen c.requires.ready c.in-Err.ensures.refused before)

pub answer_read-requires-clause-source : goal.answer_read-requires-clause-source
answer_read-requires-clause-source g c = let ok = c.in-Ok.ensures.ok in subst IsSource (sym ok.0) (ok.1, ok.2)

pub answer_read-requires-clause-reading : goal.answer_read-requires-clause-reading
answer_read-requires-clause-reading g c = c.in-Ok-read_any.ensures.tries.1

pub returns-in-Ok-read_any-clause-answer : goal.returns-in-Ok-read_any-clause-answer
returns-in-Ok-read_any-clause-answer g c =
    let ok = c.in-Ok.ensures.ok in
    let tries = c.in-Ok-read_any.ensures.tries in
    any_of_bytes _ c.args.command c.in-Ok.source c.args.bytes.now _ c.answer_read.result _ ok.0
    (script_answers _ c.args.command c.in-Ok.source _ c.in-Ok-read_any.script.language _ _ (subst IsSource (sym ok.0) (ok.1, ok.2)) tries.0 tries.1 c.answer_read.result _ c.answer_read.ensures.answer)

pub refused_in-requires : goal.refused_in-requires
refused_in-requires g c = has_place c.in-Ok.source c.in-Err-read_any.refused c.in-Err-read_any.ensures.tries

pub returns-in-Err-read_any-clause-answer : goal.returns-in-Err-read_any-clause-answer
returns-in-Err-read_any-clause-answer g c =
    let ok = c.in-Ok.ensures.ok in
    any_of_bytes _ c.args.command c.in-Ok.source c.args.bytes.now _ (Err c.refused_in.result) _ ok.0
    (text_refused _ c.args.command c.in-Ok.source _ c.in-Err-read_any.refused c.refused_in.result _ c.requires.ready (subst IsSource (sym ok.0) (ok.1, ok.2)) c.in-Err-read_any.ensures.tries c.refused_in.ensures)

pub returns-in-Err-read_any-clause-told : goal.returns-in-Err-read_any-clause-told
returns-in-Err-read_any-clause-told g c = told_no_usage c.in-Ok.source c.in-Err-read_any.refused c.refused_in.result c.in-Err-read_any.ensures.tries c.refused_in.ensures
