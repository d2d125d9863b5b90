use Rattle.std.proofs.Common.{true, false, refl, ◌∙◌}
use Rattle.std.specs.Prelude.{None}
use Rattle.unwrapping.proofs.CompareSteps.{begins_comparing, compares_on, ends_comparing}
use Rattle.unwrapping.proofs.keeping.are_kept.Goals as goal

pub loop-left-init : goal.loop-left-init
loop-left-init c =
    let reading = c.args.reading.now in
    let again = c.args.again.now in
    begins_comparing reading.start c.args.source.now reading.tokens.items again.start c.args.unwrapped.now again.tokens.items (record { text = c.all.result; unwrapped = c.all-2.result; comment_count = None; may_end = false; alike = true }) (c.all.ensures.rows ∙ c.deref.ensures.value)
    c.all.ensures.at c.all.ensures.passed (c.all-2.ensures.rows ∙ c.deref-2.ensures.value) c.all-2.ensures.at c.all-2.ensures.passed refl refl

pub loop-left-preserved : goal.loop-left-preserved
loop-left-preserved c =
    let reading = c.args.reading.now in
    let again = c.args.again.now in
    compares_on reading.start c.args.source.now reading.tokens.items again.start c.args.unwrapped.now again.tokens.items c.loop-left.left c.turn.new.self c.loop-left.invariant (c.in_ok-turn.ensures.leads c.if-not-branch.false)

pub returns : goal.returns
returns c = λ same.
    let reading = c.args.reading.now in
    let again = c.args.again.now in
    let done = c.loop-left-test.false in
    ends_comparing reading.start c.args.source.now reading.tokens.items again.start c.args.unwrapped.now again.tokens.items c.loop-left.left c.loop-left.invariant (c.is_done.ensures.rows done) (c.is_done.ensures.others done)
    (c.is_done.ensures.passed done) (c.is_done.ensures.passed_again done)
