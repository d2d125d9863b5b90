use Rattle.std.proofs.Common.{refl, arith}
use Rattle.mending.proofs.SpliceSteps.{bytes_before}
use Rattle.mending.proofs.splice.end_of.Goals as goal

pub returns-then-are_same : goal.returns-then-are_same
returns-then-are_same c = (omega arith, bytes_before c.args.text.now c.args.bytes.now c.args.at _ refl (c.are_same.ensures c.if-are_same.true))
