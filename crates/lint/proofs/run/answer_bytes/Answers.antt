use Rattle.std.proofs.Common.{refl, sym, subst}
use Rattle.commands.specs.declared.command.Command.TheVariants.{Check, Mend}
use Rattle.lint.specs.Run.{IsSource}
use Rattle.lint.proofs.RunAnswers.{of_bytes, refused_bytes}
use Rattle.lint.proofs.run.answer_bytes.Goals as goal

pub returns-in-Err-clause-answer : goal.returns-in-Err-clause-answer
returns-in-Err-clause-answer g c = λ seen before.
    rw c.at_no_place.ensures (refused_bytes _ c.args.command c.args.choice c.args.bytes.now _ c.in-Err.fault _ seen c.requires.ready c.in-Err.ensures.refused before)

pub check-requires-clause-source : goal.check-requires-clause-source
check-requires-clause-source g c = let ok = c.in-Ok.ensures.ok in subst IsSource (sym ok.0) (ok.1, ok.2)

pub returns-in-Check-clause-answer : goal.returns-in-Check-clause-answer
returns-in-Check-clause-answer g c =
    of_bytes _ c.args.command (Check c.in-Check.form) c.args.choice c.in-Ok.source c.args.bytes.now _ c.check.result _ c.in-Check.is c.in-Ok.ensures.ok.0 c.check.ensures.answer

pub mend-requires-clause-source : goal.mend-requires-clause-source
mend-requires-clause-source g c = let ok = c.in-Ok.ensures.ok in subst IsSource (sym ok.0) (ok.1, ok.2)

pub returns-in-Mend-clause-answer : goal.returns-in-Mend-clause-answer
returns-in-Mend-clause-answer g c = of_bytes _ c.args.command Mend c.args.choice c.in-Ok.source c.args.bytes.now _ c.mend.result _ c.in-Mend.is c.in-Ok.ensures.ok.0 c.mend.ensures.answer

pub answer_script-requires-clause-source : goal.answer_script-requires-clause-source
answer_script-requires-clause-source g c = let ok = c.in-Ok.ensures.ok in subst IsSource (sym ok.0) (ok.1, ok.2)

pub returns-in_default-clause-answer : goal.returns-in_default-clause-answer
returns-in_default-clause-answer g c =
    of_bytes _ c.args.command c.args.command c.args.choice c.in-Ok.source c.args.bytes.now _ c.answer_script.result _ refl c.in-Ok.ensures.ok.0 (c.answer_script.ensures.answer _ c.args.choice c.asked_language.ensures)
