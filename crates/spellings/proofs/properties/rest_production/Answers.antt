use Rattle.std.proofs.Common.{rules}
use Rattle.spellings.proofs.properties.rest_production.Goals as goal

pub returns-then-is_pattern : goal.returns-then-is_pattern
returns-then-is_pattern c = search rules
