-- A refusal that is told.
use Rattle.std.proofs.Common.{ℕ, List, Err, inl, inr, refl}
use Rattle.commands.specs.Refused.{no_memory}
use Rattle.commands.specs.declared.command.Command.{Command}
use Rattle.commands.specs.declared.asked_language.AskedLanguage.{AskedLanguage}
use Rattle.commands.specs.declared.refused.Refused.{Refused}
use Rattle.embedding.specs.Answers.{AnswersBytes}
use Rattle.embedding_c.specs.Calls.{TellsBy, TellsRefusal}
use Rattle.embedding_c.specs.declared.Outcome.{Outcome}

-- it is the command's answer, or memory was refused for its line, which is an answer too
pub tells_refusal : (command : Command) (asked : AskedLanguage) (text second before after : List ℕ) (refused : Refused) (outcome : Outcome)
    → AnswersBytes command asked text second (Err refused) → TellsRefusal refused before after outcome → TellsBy command asked text second before after outcome
tells_refusal command asked text second before after refused outcome answered (inl line) = (Err refused, answered, line)
tells_refusal command asked text second before after refused outcome answered (inr line) = (Err no_memory, inr refl, line)
