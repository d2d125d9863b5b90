use Rattle.std.proofs.Common.{◌≡◌, ◌++◌, drop}
use Rattle.tree.specs.Flat.{post_order}
use Rattle.suppressions.specs.Comments.{comments_of, comments_outside}
use Rattle.suppressions.proofs.comments.comments_of.Given as goal

abbrev pub invariant-loop-number : goal.invariant-loop-number
invariant-loop-number l = l.out.items ++ comments_outside l.source l.from (drop l.number (post_order l.program)) ≡ comments_of l.source l.program
