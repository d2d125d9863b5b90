use Rattle.std.proofs.Common.{rules}
use Rattle.source_text.proofs.fault.FaultFromAllocError.from.Goals as goal

pub returns : goal.returns
returns c = search rules
