use Rattle.std.proofs.Common.{rules}
use Rattle.source_text.proofs.character.is_line_terminator.Goals as goal

pub returns-in_default : goal.returns-in_default
returns-in_default c = search rules
