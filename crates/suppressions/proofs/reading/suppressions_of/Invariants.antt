use Rattle.std.proofs.Common.{◌≡◌, ◌++◌, drop}
use Rattle.source_text.specs.Located.{IsLocated}
use Rattle.suppressions.specs.Suppressions.{of_comments}
use Rattle.suppressions.proofs.reading.suppressions_of.Given as goal

abbrev pub invariant-loop-comment : goal.invariant-loop-comment
invariant-loop-comment l = record {
  located : IsLocated l.source l.here;
  found : l.out.items ++ of_comments l.asked.reach l.asked.takes_eslint l.source (drop l.comment-index l.comment-items) ≡ of_comments l.asked.reach l.asked.takes_eslint l.source l.comment-items;
}
