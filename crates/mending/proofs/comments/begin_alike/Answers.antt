use Rattle.std.proofs.Common.{sym, ap, ◌∙◌}
use Rattle.unwrapping.specs.Readings.{bytes_in}
use Rattle.unwrapping.proofs.BeginningLines.{lines_alike}
use Rattle.mending.proofs.comments.begin_alike.Goals as goal

pub returns : goal.returns
returns c = λ same.
    let is = c.as_bytes.ensures.value ∙ c.text-text.ensures.value in
    let is_again = c.as_bytes-2.ensures.value ∙ c.text-text_again.ensures.value in
    let from = c.args.reading.now.start in
    let from_again = c.args.again.now.start in
    lines_alike c.args.source.now c.args.next.now from from_again c.text-text.ensures.utf8 c.text-text_again.ensures.utf8
    (ap (λ x. bytes_in x (record { start = 0; end = from })) (sym is) ∙ c.are_same.ensures same ∙ ap (λ x. bytes_in x (record { start = 0; end = from_again })) is_again)
