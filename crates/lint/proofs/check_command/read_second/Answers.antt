use Rattle.std.proofs.Common.{◌∙◌, ap, inl, sym}
use Rattle.lint.specs.Languages.{language_of}
use Rattle.lint.proofs.CheckAnswers.{contradicted}
use Rattle.lint.proofs.check_command.read_second.Goals as goal

pub returns-in-Err : goal.returns-in-Err
returns-in-Err g c = inl c.in-Err.ensures

pub returns-in-None : goal.returns-in-None
returns-in-None g c = contradicted c.args.choice _ c.in-Ok.settings _ c.at_no_place.result c.in-Ok.ensures (ap (language_of c.args.choice) (sym c.languages.ensures) ∙ sym c.language_of.ensures ∙ c.in-None.is) c.at_no_place.ensures
