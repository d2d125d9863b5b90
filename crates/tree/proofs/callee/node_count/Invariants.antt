use Rattle.std.proofs.Common.{drop}
use Rattle.tree.proofs.MovedNodes.{AreGaps}
use Rattle.tree.proofs.callee.node_count.Given as goal

-- those from there on are gaps
abbrev pub invariant-loop-index : goal.invariant-loop-index
invariant-loop-index l = AreGaps (drop l.index l.fn.waiting)
