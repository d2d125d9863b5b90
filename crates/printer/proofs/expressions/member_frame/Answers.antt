use Rattle.std.proofs.Common.{rules}
use Rattle.printer.proofs.expressions.member_frame.Goals as goal

pub returns-in-false-false : goal.returns-in-false-false
returns-in-false-false c = search rules
