use Rattle.std.proofs.Common.{◌≡◌, length, take, sym, ap, ◌∙◌, arith}
use Rattle.std.proofs.lemmas.List.{take_all}
use Rattle.unwrapping.specs.Readings.{comments_in}
use Rattle.unwrapping.proofs.keeping.begin_alike.Goals as goal

pub returns : goal.returns
returns c = λ same.
    let i = c.loop-index.index in
    let low = c.loop-index-test.false in
    let high = c.loop-index.auto.index-end in
    let e : i ≡ length c.args.others.now = omega arith in
    sym (ap (λ k. comments_in c.args.text.now (take k c.args.comments.now)) e) ∙ c.loop-index.invariant ∙ ap (comments_in c.args.other.now) (take_all i c.args.others.now low)
