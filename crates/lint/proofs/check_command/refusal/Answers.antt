use Rattle.std.proofs.Common.{subst, sym}
use Rattle.commands.specs.declared.refused.Refused.{Refused}
use Rattle.lint.specs.ReadScripts.{IsReading}
use Rattle.lint.specs.Steps.{RefusesChecked}
use Rattle.lint.proofs.CheckAnswers.{settings_refused, text_refused}
use Rattle.lint.proofs.check_command.refusal.Goals.{in-Ok, in-Err}
use Rattle.lint.proofs.check_command.refusal.Goals as goal

pub returns-after-read_script : goal.returns-after-read_script
returns-after-read_script c = elim c.match-read_script.branch [
  | in-Ok w ↦
      let parsed = w.in-Ok.field-0 in
      let reading : IsReading c.asked_language-language.result c.args.source.now parsed.program parsed.pairs.items = record { accepted = w.in-Ok.ensures.accepted; only = w.in-Ok.ensures.only } in
      settings_refused c.args.choice c.args.source.now c.asked_language-language.result parsed.program parsed.pairs.items c.args.of_settings c.match-read_script.result c.asked_language-language.ensures reading w.result-is
  | in-Err w ↦ subst (λ (r : Refused). RefusesChecked c.args.choice c.args.source.now c.args.of_settings r) (sym w.result-is)
      (text_refused c.args.choice c.args.source.now c.asked_language-language.result w.in-Err.fault c.args.of_settings w.refused_at.result c.in_default.not-OutOfMemory c.asked_language-language.ensures w.in-Err.ensures.refused w.refused_at.ensures.first w.refused_at.ensures.fault w.refused_at.ensures.place w.refused_at.ensures.hint)
]
