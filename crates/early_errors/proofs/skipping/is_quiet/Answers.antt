use Rattle.std.proofs.Common.{arith}
use Rattle.tree.specs.Node.{node_tree}
use Rattle.early_errors.proofs.Silent.{quiet_given}
use Rattle.early_errors.proofs.skipping.is_quiet.Goals as goal

pub returns : goal.returns
returns c = quiet_given c.args.no_arguments c.says_nothing.result (node_tree c.args.node) c.part_count.result c.says_nothing.ensures c.part_count.ensures (omega (arith, c.if-part_count-gt0.false))
