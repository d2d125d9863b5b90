use Rattle.std.proofs.Common.{ℕ, List, ap, ◌∙◌, subst}
use Rattle.std.specs.Prelude.{slice_range}
use Rattle.source_text.specs.Source.{IsPlace}
use Rattle.tokens.specs.Scanned.{IsGap, IsLexemeAt}
use Rattle.tokens.proofs.ScannedTokens.{token_reads, string_read, word_forward}
use Rattle.tokens.proofs.scanner.scan.Goals as goal
use Rattle.tokens.proofs.scanner.scan.Goals.{After-blanks-blank}

-- what holds of the text holds of the source
along : (c : After-blanks-blank) (P : List ℕ → Type 0) → P c.text-text.result.now → P c.args.source.now
along c P h = subst P c.text-text.ensures.value h

gap : (c : After-blanks-blank) → IsGap c.args.source.now c.args.at c.blanks-blank.result.end c.blanks-blank.result.has_line_break
gap c = along c (λ x. IsGap x c.args.at c.blanks-blank.result.end c.blanks-blank.result.has_line_break) c.blanks-blank.ensures

place : (c : After-blanks-blank) → IsPlace c.args.source.now c.blanks-blank.result.end
place c = let g = gap c in let p = g.passed in p.place

pub returns-clause-ok : goal.returns-clause-ok
returns-clause-ok d =
    let c = (goal.at.returns-clause-ok d).After-blanks-blank in
    let word = d.in-Some.word in
    let lexeme : IsLexemeAt c.args.goal c.args.source.now c.blanks-blank.result.end word.class word.end =
    along c (λ x. IsLexemeAt c.args.goal x c.blanks-blank.result.end word.class word.end) d.in-Some.ensures in
    token_reads c.args.source.now c.args.goal c.args.at c.blanks-blank.result.end word.end c.blanks-blank.result.has_line_break word.class d.range.result.now c.text-text.ensures.utf8 (place c) (gap c)
    lexeme.no_comment lexeme.read lexeme.word
    (d.range.ensures.value ∙ ap (λ (x : List ℕ). slice_range x c.blanks-blank.result.end word.end) c.text-text.ensures.value)

pub returns-clause-string : goal.returns-clause-string
returns-clause-string d = string_read d.args.source.now d.args.goal d.args.at _ d.range.utf8 (returns-clause-ok d)

pub returns-clause-goes_on : goal.returns-clause-goes_on
returns-clause-goes_on d = word_forward d.in-Some.word.class d.text-text.result.now d.blanks-blank.result.end d.in-Some.word.end d.in-Some.ensures.word
