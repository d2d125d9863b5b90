use Rattle.std.proofs.Common.{sym, ap, ◌∙◌, drop, ◌+◌}
use Rattle.std.proofs.Math.ListN.{drop_of_length-le}
use Rattle.mending.proofs.CommentRuns.{found_on, found_all, next_row}
use Rattle.mending.proofs.comments.all_comments.Goals as goal

pub loop-row-preserved : goal.loop-row-preserved
loop-row-preserved c =
    let rows = c.args.reading.now.tokens.items in
    found_on c.args.reading.now.start c.args.source.now rows c.loop-row.at (drop c.loop-row.row-index rows) (drop (c.loop-row.row-index + 1) rows) _ c.loop-row.comments.items c.push_comments.new.comments.items
    (next_row c.deref-row-items.result.now rows c.loop-row.row-index _ c.deref-row-items.ensures.value c.loop-row-test.true) (c.in_ok-push_comments.ensures c.if-not-branch.false) c.loop-row.invariant

pub returns : goal.returns
returns c =
    let rows = c.args.reading.now.tokens.items in
    found_all c.args.reading.now.start c.args.source.now rows c.loop-row.at (drop c.loop-row.row-index rows) c.loop-row.comments.items
    (ap (drop c.loop-row.row-index) (sym c.deref-row-items.ensures.value) ∙ drop_of_length-le c.deref-row-items.result.now c.loop-row-test.false) c.loop-row.invariant
