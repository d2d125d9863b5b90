-- The commands of the program.
use Rattle.std.specs.Prelude.{ℕ, List, codes, false}
use Rattle.commands.specs.declared.command.Command.{Command}
use Rattle.commands.specs.declared.command.Command.TheVariants.{Check, Tree, Fix, Unwrap, Mend, Format, Cost, Verify, Same}
use Rattle.commands.specs.declared.command.CommaChoice.TheVariants.{Everywhere}
use Rattle.commands.specs.declared.command.FormatChoice.{FormatChoice}

-- the word for a command
abbrev pub word_of : Command → List ℕ
word_of (Check form) = codes "check"
word_of Tree = codes "tree"
word_of Fix = codes "fix"
word_of Unwrap = codes "unwrap"
word_of Mend = codes "mend"
word_of (Format choice) = codes "format"
word_of Cost = codes "cost"
word_of Verify = codes "verify"
word_of Same = codes "same"

-- how `format` writes a script where a call says nothing of it
abbrev pub default_format : FormatChoice
default_format = record { width = 80; indent = 2; tabs = false; commas = Everywhere; bare_arrows = false; fewest = false; check = false }
