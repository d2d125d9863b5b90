use Rattle.std.proofs.Common.{rules}
use Rattle.source_text.proofs.line_walker.ends_line.Goals as goal

pub returns-in_default-matches : goal.returns-in_default-matches
returns-in_default-matches c = search rules

pub returns-else-at-bytes : goal.returns-else-at-bytes
returns-else-at-bytes c = search rules
