use Rattle.std.proofs.Common.{◌≡◌}
use Rattle.tree.specs.Moved.{moved_up}
use Rattle.tree.proofs.MovedNodes.{mapped_between}
use Rattle.tree.proofs.callee.move_up.Given as goal

-- those from the place on so far have moved up
abbrev pub invariant-loop-index : goal.invariant-loop-index
invariant-loop-index l = l.parts ≡ mapped_between moved_up l.from l.index l.fn.parts
