use Rattle.std.proofs.Common.{◌≡◌, drop}
use Rattle.tree.specs.Flat.{post_order}
use Rattle.private_members.specs.Sets.{has_private}
use Rattle.private_members.proofs.walk.has_private.Given as goal

abbrev pub invariant-loop-number : goal.invariant-loop-number
invariant-loop-number l = has_private (drop l.number (post_order l.program)) ≡ has_private (post_order l.program)
