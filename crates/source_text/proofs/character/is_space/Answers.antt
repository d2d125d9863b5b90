use Rattle.std.proofs.Common.{rules}
use Rattle.source_text.proofs.character.is_space.Goals as goal

pub returns-then-matches : goal.returns-then-matches
returns-then-matches c = search rules
