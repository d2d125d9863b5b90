-- A turn of the loop over reports.
use Rattle.std.proofs.Common.{◌≡◌, ◌≤◌, ◌<◌, ◌+◌, ℕ, suc, List, ◌++◌, length, drop, get_or, sym, ap, ◌∙◌, append_assoc, drop-cons, add-one}
use Rattle.std.specs.Str.{IsUtf8, IsCharBoundary}
use Rattle.source_text.specs.LineBytes.{after_bytes}
use Rattle.source_text.specs.Lines.{line_column}
use Rattle.source_text.proofs.Lines.{line_column_by_bytes}
use Rattle.rule_words.specs.Reports.{Report}
use Rattle.rules.specs.Lines.{mark_of, place_before, line_of, report_line, report_lines, span_line, span_lines}
use Rattle.rules.specs.Settings.{Settings, is_warning}
use Rattle.source_text.specs.Located.{IsLocated}
use Rattle.source_text.specs.declared.line_walker.LineWalker.{LineWalker}
use Rattle.rules.proofs.Places.{nearest_is_before}

-- the line of a report, at the nearest place at or before its start
pub line_is : (settings : Settings) (text : List ℕ) (here : LineWalker) (r : Report) (place : ℕ) → IsUtf8 text → IsLocated text here → here.at ≡ place
    → place ≤ r.start → IsCharBoundary text place → ((i : ℕ) → place < i → i ≤ r.start → IsCharBoundary text i → ⊥)
    → line_of (here.line, here.column) r (mark_of (is_warning r.rule settings)) ≡ report_line settings text r
line_is settings text here r place utf8 located at below boundary nearest =
    let before : place ≡ place_before text r.start = nearest_is_before text r.start place below boundary nearest in
    let is : (here.line, here.column) ≡ line_column text (place_before text r.start) =
    located.walked ∙ ap (λ n. after_bytes (1, 1) n text) at ∙ line_column_by_bytes text place utf8 boundary ∙ ap (λ n. line_column text n) before in
    ap (λ p. line_of p r (mark_of (is_warning r.rule settings))) is

pub turn : (settings : Settings) (text : List ℕ) (reports : List Report) (i : ℕ) (r : Report) (before after total line : List ℕ) → i < length reports → r ≡ get_or reports i r
    → after ≡ before ++ line → line ≡ report_line settings text r
    → before ++ report_lines settings text (drop i reports) ≡ total → after ++ report_lines settings text (drop (i + 1) reports) ≡ total
turn settings text reports i r before after total line lt item new is old =
    let rest = report_lines settings text (drop (i + 1) reports) in
    let next : report_lines settings text (drop i reports) ≡ report_line settings text r ++ rest =
    rw (add-one i) (ap (report_lines settings text) (drop-cons reports i r lt)
    ∙ ap (λ x. report_line settings text x ++ report_lines settings text (drop (suc i) reports)) (sym item)) in
    ap (λ x. x ++ rest) new ∙ append_assoc before line rest ∙ ap (λ x. before ++ (x ++ rest)) is ∙ ap (λ x. before ++ x) (sym next) ∙ old

-- a turn of the loop over reports whose lines have spans
pub span_turn : (reports : List Report) (i : ℕ) (r : Report) (before after total : List ℕ) → i < length reports → r ≡ get_or reports i r
    → after ≡ before ++ span_line r → before ++ span_lines (drop i reports) ≡ total → after ++ span_lines (drop (i + 1) reports) ≡ total
span_turn reports i r before after total lt item new old =
    let rest = span_lines (drop (i + 1) reports) in
    let next : span_lines (drop i reports) ≡ span_line r ++ rest =
    rw (add-one i) (ap span_lines (drop-cons reports i r lt) ∙ ap (λ x. span_line x ++ span_lines (drop (suc i) reports)) (sym item)) in
    ap (λ x. x ++ rest) new ∙ append_assoc before (span_line r) rest ∙ ap (λ x. before ++ x) (sym next) ∙ old
