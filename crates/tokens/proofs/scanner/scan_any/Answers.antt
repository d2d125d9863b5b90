use Rattle.std.proofs.Common.{◌≡◌, ℕ, true, false, List, refl, sym, ap, ◌∙◌, subst}
use Rattle.std.specs.Prelude.{slice_range}
use Rattle.source_text.specs.Source.{IsPlace}
use Rattle.tokens.specs.Comments.{begins_comment}
use Rattle.tokens.specs.TokenStarts.{class_of}
use Rattle.tokens.specs.Reading.{behind}
use Rattle.tokens.specs.Scanned.{IsGap, IsSolid, IsWordAt, NoWordAt}
use Rattle.tokens.proofs.ScannedTokens.{token_reads, string_read, none_in_comment, none_of_class, word_forward}
use Rattle.tokens.proofs.scanner.scan_any.Goals as goal
use Rattle.tokens.proofs.scanner.scan_any.Goals.{After-skip_trivia-gap}

-- what holds of the text holds of the source
along : (c : After-skip_trivia-gap) (P : List ℕ → Type 0) → P c.text-text.result.now → P c.args.source.now
along c P h = subst P c.text-text.ensures.value h

gap : (c : After-skip_trivia-gap) → IsGap c.args.source.now c.args.at c.skip_trivia-gap.result.end c.skip_trivia-gap.result.has_line_break
gap c = along c (λ x. IsGap x c.args.at c.skip_trivia-gap.result.end c.skip_trivia-gap.result.has_line_break) c.skip_trivia-gap.ensures.gap

solid : (c : After-skip_trivia-gap) → IsSolid (behind c.args.source.now c.skip_trivia-gap.result.end)
solid c = along c (λ x. IsSolid (behind x c.skip_trivia-gap.result.end)) c.skip_trivia-gap.ensures.solid

place : (c : After-skip_trivia-gap) → IsPlace c.args.source.now c.skip_trivia-gap.result.end
place c = let g = gap c in let p = g.passed in p.place

pub returns-then-comment_begins-clause-err : goal.returns-then-comment_begins-clause-err
returns-then-comment_begins-clause-err d =
    let c = (goal.at.returns-then-comment_begins-clause-err d).After-skip_trivia-gap in
    none_in_comment c.args.source.now c.args.goal c.args.at c.skip_trivia-gap.result.end c.skip_trivia-gap.result.has_line_break (gap c) (solid c)
    (along c (λ x. begins_comment (behind x c.skip_trivia-gap.result.end) ≡ true) (sym d.comment_begins.ensures ∙ d.if-comment_begins.true))

pub returns-in_default-clause-err : goal.returns-in_default-clause-err
returns-in_default-clause-err d =
    let c = (goal.at.returns-in_default-clause-err d).After-skip_trivia-gap in
    none_of_class c.args.source.now c.args.goal c.args.at c.skip_trivia-gap.result.end c.skip_trivia-gap.result.has_line_break (class_of c.args.goal (behind c.args.source.now c.skip_trivia-gap.result.end)) (gap c) (solid c) refl
    (along c (λ x. NoWordAt (class_of c.args.goal (behind x c.skip_trivia-gap.result.end)) x c.skip_trivia-gap.result.end) d.in_default.ensures.none)

pub returns-clause-ok : goal.returns-clause-ok
returns-clause-ok d =
    let c = (goal.at.returns-clause-ok d).After-skip_trivia-gap in
    let word = d.in-Some.word in
    token_reads c.args.source.now c.args.goal c.args.at c.skip_trivia-gap.result.end word.end c.skip_trivia-gap.result.has_line_break word.class d.range.result.now c.text-text.ensures.utf8 (place c) (gap c)
    (along c (λ x. begins_comment (behind x c.skip_trivia-gap.result.end) ≡ false) (sym d.comment_begins.ensures ∙ d.if-comment_begins.false))
    (along c (λ x. word.class ≡ class_of c.args.goal (behind x c.skip_trivia-gap.result.end)) d.in-Some.ensures.some.0)
    (along c (λ x. IsWordAt word.class x c.skip_trivia-gap.result.end word.end) d.in-Some.ensures.some.1)
    (d.range.ensures.value ∙ ap (λ (x : List ℕ). slice_range x c.skip_trivia-gap.result.end word.end) c.text-text.ensures.value)

pub returns-clause-string : goal.returns-clause-string
returns-clause-string d = string_read d.args.source.now d.args.goal d.args.at _ d.range.utf8 (returns-clause-ok d)

pub returns-clause-goes_on : goal.returns-clause-goes_on
returns-clause-goes_on d = word_forward d.in-Some.word.class d.text-text.result.now d.skip_trivia-gap.result.end d.in-Some.word.end d.in-Some.ensures.some.1
