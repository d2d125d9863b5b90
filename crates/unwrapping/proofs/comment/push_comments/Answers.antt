use Rattle.std.proofs.Common.{ℕ, List, [], ◌∷◌, refl, sym, subst}
use Rattle.source_text.specs.Source.{IsPlace}
use Rattle.tokens.specs.Scanned.{Passed, IsCommentRest}
use Rattle.unwrapping.specs.declared.comment.CommentRow.{CommentRow}
use Rattle.unwrapping.proofs.CommentSteps.{IsPassing, none_between, begins_passing, passes_blank, passes_comment, ends_passing}
use Rattle.unwrapping.proofs.comment.push_comments.Goals as goal

-- nothing stands there
pub returns-then-at-stop : goal.returns-then-at-stop
returns-then-at-stop c = λ same. none_between c.args.source.now c.args.at c.args.stop c.args.comments.now.items c.if-at-stop.true

pub loop-place-init : goal.loop-place-init
loop-place-init c =
    begins_passing c.args.source.now c.args.at c.args.stop c.args.comments.now.items
    (subst (λ (x : List ℕ). IsPlace x c.args.at) c.text-text.ensures.value (c.is_char_boundary.ensures.test.0 c.if-not-is_char_boundary.false))

pub loop-place-preserved-then-step-ne47 : goal.loop-place-preserved-then-step-ne47
loop-place-preserved-then-step-ne47 c =
    passes_blank c.args.source.now c.args.at c.loop-place.place c.in-Some.step.end c.args.stop c.in-Some.step.c c.args.comments.now.items c.loop-place.comments.items c.loop-place.invariant
    (subst (λ (x : List ℕ). Passed x c.loop-place.place c.in-Some.step.end (c.in-Some.step.c ∷ [])) c.text-text.ensures.value c.in-Some.ensures.some) c.if-step-ne47.true c.loop-place-test.true

pub loop-place-preserved : goal.loop-place-preserved
loop-place-preserved c =
    let text = c.args.source.now in
    let next = c.in-Some-comment.comment.end in
    let rest = subst (λ (x : List ℕ). IsCommentRest x c.in-Some.step.end next c.in-Some-comment.comment.has_line_break) c.text-text.ensures.value c.in-Some-comment.ensures.some in
    let first = subst (λ (x : List ℕ). Passed x c.loop-place.place c.in-Some.step.end (c.in-Some.step.c ∷ [])) c.text-text.ensures.value c.in-Some.ensures.some in
    let slash = subst (λ x. Passed text c.loop-place.place c.in-Some.step.end (x ∷ [])) c.if-step-ne47.false first in
    subst (λ (rows : List CommentRow). IsPassing text c.args.at next c.args.stop c.args.comments.now.items rows) (sym c.in_ok-push.ensures.items)
    (passes_comment text c.args.at c.loop-place.place c.in-Some.step.end next c.args.stop c.in-Some-comment.comment.has_line_break c.args.comments.now.items c.loop-place.comments.items _ c.text-text.ensures.utf8 c.loop-place.invariant
    slash rest c.loop-place-test.true c.of.ensures.start c.of.ensures.end refl)

pub returns : goal.returns
returns c = λ same. ends_passing c.args.source.now c.args.at c.loop-place.place c.args.stop c.args.comments.now.items c.loop-place.comments.items c.loop-place.invariant c.if-place-stop.false
