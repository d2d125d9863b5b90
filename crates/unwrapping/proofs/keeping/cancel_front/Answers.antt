use Rattle.std.proofs.Common.{◌≡◌, List, ◌++◌, length, take, drop, sym, ap, ◌∙◌}
use Rattle.std.proofs.lemmas.List.{take-append-drop, map-append}
use Rattle.unwrapping.specs.declared.comment.CommentRow.{CommentRow}
use Rattle.unwrapping.specs.Readings.{comment_in, comments_in}
use Rattle.unwrapping.proofs.keeping.cancel_front.Goals as goal

pub returns : goal.returns
returns c = λ same.
    let text = c.args.text.now in
    let other = c.args.other.now in
    let rows : List CommentRow = c.args.comments.now.items in
    let others : List CommentRow = c.args.others.now.items in
    let alike : comments_in text (take (length others) rows) ≡ comments_in other others =
    (λ i. comments_in text (take (length (sym c.deref-2.ensures.value i)) (sym c.deref.ensures.value i))) ∙ c.begin_alike.ensures c.if-not-begin_alike.false ∙ ap (comments_in other) c.deref-2.ensures.value in
    let left : drop (length others) rows ≡ c.in_ok-left.left.items = ap (λ n. drop n rows) (sym (c.len.ensures ∙ c.args.others.now.ok.0)) ∙ sym c.in_ok-left.ensures.tail in
    record {
      split = ap (comments_in text) (sym (take-append-drop (length others) rows)) ∙ map-append (comment_in text) (take (length others) rows) (drop (length others) rows) ∙ (λ i. alike i ++ comments_in text (left i));
      none = c.clear.ensures.items;
    }
