use Rattle.std.proofs.Common.{◌≡◌, ◌++◌, drop}
use Rattle.tree.specs.Flat.{post_order}
use Rattle.rules.specs.LeftAlone.{all_starts}
use Rattle.rules.proofs.left_alone.push_all_starts.Given as goal

abbrev pub invariant-loop-number : goal.invariant-loop-number
invariant-loop-number l = l.starts.items ++ all_starts l.why (drop l.number (post_order l.program)) ≡ l.fn.starts.items ++ all_starts l.why (post_order l.program)
