-- The steps of a run where each language is tried, from what was read to what is written.
use Rattle.std.specs.Prelude.{◌≡◌, ◌⊎◌, ℕ, List, Bool, false, Option, Result, Ok, Err}
use Rattle.source_text.specs.declared.fault.Fault.{Fault}
use Rattle.commands.specs.declared.asked_language.AskedLanguage.{AskedLanguage}
use Rattle.commands.specs.declared.asked_language.AskedLanguage.TheVariants.{Said, Any}
use Rattle.commands.specs.declared.command.Command.{Command}
use Rattle.commands.specs.declared.command.Command.TheVariants.{Same}
use Rattle.commands.specs.declared.refused.Refused.{Refused}
use Rattle.commands.specs.Refused.{at_no_place}
use Rattle.language.specs.declared.Language.{Language}
use Rattle.tree.specs.Tree.{Tree}
use Rattle.tree.specs.declared.kind.Pair.{Pair}
use Rattle.rules.specs.Reports.{Report}
use Rattle.rules.specs.Rules.{View}
use Rattle.lint.specs.declared.answer.Answer.{Answer}
use Rattle.lint.specs.Run.{Seen}
use Rattle.lint.specs.Steps.{Answers, AnswersBytes, AnswersSame, IsBefore, IsRead, LacksSettings, output_of, status_of}
use Rattle.lint.specs.Outputs.{HasSettings}
use Rattle.lint.specs.AnyRuns.{HasFirstOutput, RefusesAnyIn}

-- what a command with settings answers of a script of a language, by what its second reader has to give
abbrev pub AnswersUnder : (View → List Report) → Command → Language → List ℕ → Tree → List Pair → Option (List ℕ) → Result Answer Refused → Bool → Type 0
AnswersUnder finds command language text n P given (Ok answer) failed = Answers finds language command text n P given (Ok answer) failed
AnswersUnder finds command language text n P given (Err refused) failed = LacksSettings given refused failed

-- why a command refuses a script of a language that was read: by itself, at no place; or it lacks its settings, or `same` its other script
abbrev pub RefusesRead : (View → List Report) → Language → Command → List ℕ → Tree → List Pair → Option (List ℕ) → Refused → Bool → Type 0
RefusesRead finds language command text n P given refused failed =
    ((fault : Fault) × (refused ≡ at_no_place fault) × Answers finds language command text n P given (Err fault) failed)
    ⊎ ((HasSettings command × LacksSettings given refused failed)
    ⊎ ((command ≡ Same) × AnswersSame language n given (Err refused) failed))

-- what a command answers of it
abbrev pub AnswersRead : (View → List Report) → Language → Command → List ℕ → Tree → List Pair → Option (List ℕ) → Result Answer Refused → Bool → Type 0
AnswersRead finds language command text n P given (Ok answer) failed = Answers finds language command text n P given (Ok answer) failed
AnswersRead finds language command text n P given (Err refused) failed = RefusesRead finds language command text n P given refused failed

-- what a command answers for the bytes of the first file where each language is tried, before anything is written
abbrev pub AnswersAny : (View → List Report) → Command → List ℕ → Option (List ℕ) → Result Answer Refused → Bool → Type 0
AnswersAny finds command bytes second (Ok answer) failed =
    (failed ≡ false) × ((given : Option (List ℕ)) → IsRead given bytes → HasFirstOutput finds command given second (output_of answer) (status_of answer))
AnswersAny finds command bytes second (Err refused) failed =
    (seen : Seen) → IsBefore bytes second failed seen → RefusesAnyIn refused.in_second finds command seen refused.fault (refused.line, refused.column) refused.hint

-- by how the call says the language
abbrev pub AnswersAsked : (View → List Report) → Command → AskedLanguage → List ℕ → Option (List ℕ) → Result Answer Refused → Bool → Type 0
AnswersAsked finds command (Said choice) bytes second result failed = AnswersBytes finds command choice bytes second result failed
AnswersAsked finds command Any bytes second result failed = AnswersAny finds command bytes second result failed
