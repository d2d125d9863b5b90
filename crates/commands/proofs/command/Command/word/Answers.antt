use Rattle.std.proofs.Common.{rules}
use Rattle.commands.proofs.command.Command.word.Goals as goal

pub returns-in-Tree : goal.returns-in-Tree
returns-in-Tree c = search rules
