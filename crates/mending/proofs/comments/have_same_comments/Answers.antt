use Rattle.std.proofs.Common.{◌≡◌, sym, ◌∙◌, subst}
use Rattle.std.specs.Prelude.{IfSome}
use Rattle.unwrapping.specs.Readings.{comments_in}
use Rattle.mending.specs.Making.{HasComments}
use Rattle.mending.proofs.CommentRuns.{keeps_read}
use Rattle.mending.proofs.comments.have_same_comments.Goals as goal

pub returns : goal.returns
returns c = λ same n m pairs others is is_again.
    let text = c.args.source.now in
    let next = c.args.next.now in
    let reading = c.args.reading.now in
    let again = c.args.again.now in
    let here : HasComments reading.start text reading.tokens.items c.in-Some.comments.items = subst (λ found. IfSome found (λ cs. HasComments reading.start text reading.tokens.items cs.items)) c.in-Some.is c.in_ok-comments.ensures in
    let there : HasComments again.start next again.tokens.items c.in-Some-2.others.items = subst (λ found. IfSome found (λ cs. HasComments again.start next again.tokens.items cs.items)) c.in-Some-2.is c.in_ok-others.ensures in
    let alike : comments_in text c.in-Some.comments.items ≡ comments_in next c.in-Some-2.others.items =
    (λ i. comments_in (sym c.bytes.ensures.value i) (sym c.deref.ensures.value i)) ∙ c.are_same_comments.ensures same ∙ (λ i. comments_in (c.bytes-2.ensures.value i) (c.deref-2.ensures.value i)) in
    keeps_read text n pairs next m others reading again c.in-Some.comments.items c.in-Some-2.others.items (c.begin_alike.ensures c.if-not-begin_alike.false) here there alike is is_again
