-- What is told of one file among many, by what its name is shown as.
use Rattle.std.specs.Prelude.{◌≡◌, ℕ, List, [], ◌∷◌, ◌++◌, codes, Result, Ok, Err}
use Rattle.commands.specs.Refusal.{refusal_line, refusal_words, status_of}
use Rattle.commands.specs.Refused.{no_memory}
use Rattle.commands.specs.declared.command.Command.{Command}
use Rattle.commands.specs.declared.asked_language.AskedLanguage.{AskedLanguage}
use Rattle.commands.specs.declared.refused.Refused.{Refused}
use Rattle.command_line.specs.Unread.{unread_line_of}
use Rattle.command_line.specs.declared.unread.ReadFailure.{ReadFailure}
use Rattle.embedding.specs.Answers.{AnswersBytes}
use Rattle.embedding.specs.declared.output.Output.{Output}
use Rattle.many_files.specs.ManyFiles.{Told}
use Rattle.many_files.specs.Named.{named_lines}
use Rattle.named_answers.specs.declared.Telling.{Telling}

-- the line of a refusal of a file
abbrev pub refusal_line_of : List ℕ → Refused → List ℕ
refusal_line_of shown refused = codes "jslint: " ++ (shown ++ (codes ": " ++ (refusal_words refused ++ 10 ∷ [])))

-- what is told of an answer: its lines, the name before each; or the line of its refusal, which has the name
abbrev pub told_of : List ℕ → Result Output Refused → Told
told_of shown (Ok output) = record { output = named_lines shown output.bytes.items; errors = []; status = output.status }
told_of shown (Err refused) = record { output = []; errors = refusal_line_of shown refused; status = status_of refused.fault }

-- what is told of a file that can't be opened or read
abbrev pub told_unread : List ℕ → ReadFailure → Told
told_unread shown failure = record { output = []; errors = unread_line_of shown failure; status = 2 }

-- what is told of a file where memory is refused even for its name
abbrev pub told_no_memory : Told
told_no_memory = record { output = []; errors = refusal_line no_memory; status = 2 }

-- what is to be told is this
abbrev pub Tells : Telling → Told → Type 0
Tells telling told = (telling.output.items ≡ told.output) × (telling.errors.items ≡ told.errors) × (telling.status ≡ told.status)

-- it is the answer of a run over a text alone
abbrev pub Answers : Command → AskedLanguage → (shown text settings : List ℕ) → Telling → Type 0
Answers command asked shown text settings telling =
    (answer : Result Output Refused) × AnswersBytes command asked text settings answer × Tells telling (told_of shown answer)
