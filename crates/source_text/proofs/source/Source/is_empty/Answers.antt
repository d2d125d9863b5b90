use Rattle.std.proofs.Common.{rules}
use Rattle.source_text.proofs.source.Source.is_empty.Goals as goal

pub returns : goal.returns
returns c = search rules
