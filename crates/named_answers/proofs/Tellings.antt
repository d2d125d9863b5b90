-- What is told of a file, made piece by piece.
use Rattle.std.proofs.Common.{◌≡◌, ◌⊎◌, ℕ, List, inl, inr, refl, subst}
use Rattle.std.specs.Prelude.{IfOk, Result, Ok, Err}
use Rattle.std.specs.declared.alloc.AllocError.{AllocError}
use Rattle.commands.specs.Refused.{no_memory}
use Rattle.commands.specs.declared.command.Command.{Command}
use Rattle.commands.specs.declared.asked_language.AskedLanguage.{AskedLanguage}
use Rattle.commands.specs.declared.refused.Refused.{Refused}
use Rattle.embedding.specs.Answers.{AnswersBytes}
use Rattle.embedding.specs.declared.output.Output.{Output}
use Rattle.named_answers.specs.NamedAnswers.{Answers, Tells, told_of}
use Rattle.named_answers.specs.declared.Telling.{Telling}

-- the answer, or that memory was refused for what is told of it
pub told_either : (command : Command) (asked : AskedLanguage) (shown text settings : List ℕ) (output : Output) (result : Result Telling AllocError)
    → AnswersBytes command asked text settings (Ok output) → IfOk result (λ telling. Tells telling (told_of shown (Ok output)) ⊎ Tells telling (told_of shown (Err no_memory)))
    → IfOk result (λ telling. Answers command asked shown text settings telling)
told_either command asked shown text settings output (Ok telling) is (inl tells) = (Ok output, is, tells)
told_either command asked shown text settings output (Ok telling) is (inr tells) = (Err no_memory, inr refl, tells)
told_either command asked shown text settings output (Err e) is tells = tt

-- or the refusal
pub told_refused : (command : Command) (asked : AskedLanguage) (shown text settings : List ℕ) (refused : Refused) (result : Result Telling AllocError)
    → AnswersBytes command asked text settings (Err refused) → IfOk result (λ telling. Tells telling (told_of shown (Err refused)))
    → IfOk result (λ telling. Answers command asked shown text settings telling)
told_refused command asked shown text settings refused (Ok telling) is tells = (Err refused, is, tells)
told_refused command asked shown text settings refused (Err e) is tells = tt

-- memory was refused, by a refusal that says it
pub told_no_more : (shown : List ℕ) (output : Output) (why : Refused) (result : Result Telling AllocError) → why ≡ no_memory → IfOk result (λ telling. Tells telling (told_of shown (Err why)))
    → IfOk result (λ telling. Tells telling (told_of shown (Ok output)) ⊎ Tells telling (told_of shown (Err no_memory)))
told_no_more shown output why (Ok telling) is tells = inr (subst (λ (r : Refused). Tells telling (told_of shown (Err r))) is tells)
told_no_more shown output why (Err e) is tells = tt
