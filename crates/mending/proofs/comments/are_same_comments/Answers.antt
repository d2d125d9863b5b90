use Rattle.std.proofs.Common.{sym, ap, ◌∙◌, arith}
use Rattle.std.proofs.lemmas.List.{take_all}
use Rattle.unwrapping.specs.Readings.{comments_in}
use Rattle.mending.proofs.comments.are_same_comments.Goals as goal

pub returns : goal.returns
returns c =
    let i = c.loop-index.index in
    let low = c.loop-index-test.false in
    λ e. ap (comments_in c.args.text.now) (sym (take_all i c.args.comments.now (omega arith))) ∙ c.loop-index.invariant ∙ ap (comments_in c.args.other.now) (take_all i c.args.others.now low)
