use Rattle.std.proofs.Common.{Some, None, refl}
use Rattle.commands.specs.declared.asked_language.AskedLanguage.TheVariants.{Said}
use Rattle.commands.specs.declared.language_choice.LanguageChoice.TheVariants.{Unsaid}
use Rattle.embedding_c.proofs.jslint_answer.Goals as goal

pub returns-in-Some : goal.returns-in-Some
returns-in-Some c = (Some c.in-Some.command, Some (Said Unsaid), c.in-Some.ensures, refl, c.tell_answer.ensures)

pub returns-in-None : goal.returns-in-None
returns-in-None c = (None, Some (Said Unsaid), c.in-None.ensures, refl, (refl, c.tell_nothing.ensures))
