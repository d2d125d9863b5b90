use Rattle.std.proofs.Common.{◌∙◌}
use Rattle.retaining.proofs.RetainSteps.{begins_comparing, compares_on, ends_comparing}
use Rattle.retaining.proofs.retaining.are_retained.Goals as goal

pub loop-left-init : goal.loop-left-init
loop-left-init c =
    let reading = c.args.reading.now in
    let again = c.args.again.now in
    let side = c.all.ensures in
    let side_again = c.all-2.ensures in
    begins_comparing reading.start c.args.source.now reading.tokens.items again.start c.args.formatted.now again.tokens.items (record { text = c.all.result; formatted = c.all-2.result })
    (record { rows = side.rows ∙ c.deref.ensures.value; at = side.at; last = side.last; second = side.second; third = side.third; operand = side.operand; comments = side.comments; breaks = side.breaks })
    (record { rows = side_again.rows ∙ c.deref-2.ensures.value; at = side_again.at; last = side_again.last; second = side_again.second; third = side_again.third; operand = side_again.operand; comments = side_again.comments; breaks = side_again.breaks })

pub loop-left-preserved : goal.loop-left-preserved
loop-left-preserved c =
    let reading = c.args.reading.now in
    let again = c.args.again.now in
    compares_on reading.start c.args.source.now reading.tokens.items again.start c.args.formatted.now again.tokens.items c.loop-left.left c.turn.new.self c.loop-left.invariant (c.in_ok-turn.ensures.leads c.if-not-branch.false)

pub returns : goal.returns
returns c = λ same.
    let reading = c.args.reading.now in
    let again = c.args.again.now in
    let done = c.loop-left-test.false in
    ends_comparing reading.start c.args.source.now reading.tokens.items again.start c.args.formatted.now again.tokens.items c.loop-left.left c.loop-left.invariant (c.is_done.ensures.rows done) (c.is_done.ensures.others done)
    (c.is_done.ensures.comments done) (c.is_done.ensures.comments_again done)
