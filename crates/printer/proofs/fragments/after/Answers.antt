use Rattle.std.proofs.Common.{rules}
use Rattle.printer.proofs.fragments.after.Goals as goal

pub returns-in-Commas-2 : goal.returns-in-Commas-2
returns-in-Commas-2 c = search rules
