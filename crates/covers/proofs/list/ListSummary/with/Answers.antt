use Rattle.std.proofs.Common.{rules}
use Rattle.covers.proofs.list.ListSummary.with.Goals as goal

pub returns : goal.returns
returns c = search rules
