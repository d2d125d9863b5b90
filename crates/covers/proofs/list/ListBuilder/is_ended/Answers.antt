use Rattle.std.proofs.Common.{rules}
use Rattle.covers.proofs.list.ListBuilder.is_ended.Goals as goal

pub returns-in-OneParameter : goal.returns-in-OneParameter
returns-in-OneParameter c = search rules
