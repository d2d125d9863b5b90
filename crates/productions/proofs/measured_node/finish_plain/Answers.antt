use Rattle.std.proofs.Common.{rules}
use Rattle.productions.proofs.measured_node.finish_plain.Goals as goal

pub returns : goal.returns
returns c = search rules
