use Rattle.std.proofs.Common.{rules}
use Rattle.source_text.proofs.source.Source.bytes.Goals as goal

pub returns-clause-value : goal.returns-clause-value
returns-clause-value c = search rules
