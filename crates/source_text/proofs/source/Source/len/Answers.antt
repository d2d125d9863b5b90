use Rattle.std.proofs.Common.{rules}
use Rattle.source_text.proofs.source.Source.len.Goals as goal

pub returns-clause-value : goal.returns-clause-value
returns-clause-value c = search rules

pub returns-clause-short : goal.returns-clause-short
returns-clause-short c = search rules
