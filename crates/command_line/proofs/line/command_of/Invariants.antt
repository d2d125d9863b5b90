use Rattle.std.proofs.Common.{◌≡◌, ℕ, ◌<◌, slice_index_or}
use Rattle.commands.specs.Commands.{word_of}
use Rattle.commands.specs.declared.command.Command.{Command}
use Rattle.command_line.proofs.line.command_of.Given as goal

-- no command before this one has the word
abbrev pub invariant-loop-command : goal.invariant-loop-command
invariant-loop-command l = (k : ℕ) (d : Command) → k < l.command-index → word_of (slice_index_or l.command-items k d) ≡ l.word → ⊥
