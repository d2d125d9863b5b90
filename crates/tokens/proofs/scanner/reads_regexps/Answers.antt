use Rattle.std.proofs.Common.{rules}
use Rattle.tokens.proofs.scanner.reads_regexps.Goals as goal

pub returns-in-RegExp : goal.returns-in-RegExp
returns-in-RegExp c = search rules
