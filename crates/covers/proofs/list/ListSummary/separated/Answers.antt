use Rattle.std.proofs.Common.{rules}
use Rattle.covers.proofs.list.ListSummary.separated.Goals as goal

pub returns : goal.returns
returns c = search rules
