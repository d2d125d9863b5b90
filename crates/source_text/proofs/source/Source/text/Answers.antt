use Rattle.std.proofs.Common.{rules}
use Rattle.source_text.proofs.source.Source.text.Goals as goal

pub returns-clause-value : goal.returns-clause-value
returns-clause-value c = search rules

pub returns-clause-utf8 : goal.returns-clause-utf8
returns-clause-utf8 c = search rules

pub returns-clause-short : goal.returns-clause-short
returns-clause-short c = search rules
