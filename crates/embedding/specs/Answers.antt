-- What a command answers for bytes in memory.
use Rattle.std.specs.Prelude.{◌≡◌, ◌⊎◌, List, [], ℕ, false, Some, Result, Ok, Err}
use Rattle.lint.specs.Run.{Seen}
use Rattle.shipped_rules.specs.ShippedRules.{RunsByRules}
use Rattle.commands.specs.Refused.{no_memory}
use Rattle.commands.specs.declared.command.Command.{Command}
use Rattle.commands.specs.declared.asked_language.AskedLanguage.{AskedLanguage}
use Rattle.commands.specs.declared.refused.Refused.{Refused}
use Rattle.embedding.specs.declared.output.Output.{Output}

-- Two readers that give just these texts and a writer that had nothing and has this now, none of which has failed.
abbrev pub in_memory : (text second written : List ℕ) → Seen
in_memory text second written = record {
  given = Some text;
  second = Some second;
  before = Some [];
  after = Some written;
  reader_failed = false;
  second_failed = false;
  writer_failed = false;
}

-- The output is all that a run over these texts wrote, and the status is the run's; or a run over them that wrote nothing is refused so; or
-- memory was refused.
abbrev pub AnswersBytes : Command → AskedLanguage → (text second : List ℕ) → Result Output Refused → Type 0
AnswersBytes command asked text second (Ok output) = RunsByRules command asked (in_memory text second output.bytes.items) (Ok output.status)
AnswersBytes command asked text second (Err refused) = RunsByRules command asked (in_memory text second []) (Err refused) ⊎ (refused ≡ no_memory)
