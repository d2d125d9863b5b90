-- What is written of reports: a line for each.
use Rattle.std.specs.Prelude.{ℕ, zero, suc, Bool, not, cond, ◌&&◌, nat_le, List, [], ◌∷◌, ◌++◌, length, slice_index, codes}
use Rattle.std.specs.Fmt.{decimal}
use Rattle.source_text.specs.LineBytes.{continues}
use Rattle.source_text.specs.Lines.{line_column}
use Rattle.std.specs.List.{list_all}
use Rattle.rule_words.specs.Reports.{Report}
use Rattle.rules.specs.Settings.{Settings, is_warning}

-- an offset within the text, not one inside a character
abbrev pub is_place : List ℕ → ℕ → Bool
is_place text i = nat_le i (length text) && not (continues (slice_index text i))

-- the last place at or before an offset: it is the offset itself where that is a place, as where a node starts
abbrev pub place_before : List ℕ → ℕ → ℕ
place_before text zero = 0
place_before text (suc i) = cond (is_place text (suc i)) (suc i) (place_before text i)

-- what stands behind the text of a warning
abbrev pub mark_of : Bool → List ℕ
mark_of is_warning = cond is_warning (codes " (warning)") []

-- `LINE:COLUMN RULE TEXT`
abbrev pub unmarked : ℕ × ℕ → Report → List ℕ
unmarked at report = decimal at.0 ++ codes ":" ++ decimal at.1 ++ codes " " ++ report.rule ++ codes " " ++ report.text

-- this, a mark, and a line feed
abbrev pub line_of : ℕ × ℕ → Report → List ℕ → List ℕ
line_of at report mark = unmarked at report ++ (mark ++ 10 ∷ [])

abbrev pub report_line : Settings → List ℕ → Report → List ℕ
report_line settings text report = line_of (line_column text (place_before text report.start)) report (mark_of (is_warning report.rule settings))

-- a line for each report under settings, in their order
abbrev pub report_lines : Settings → List ℕ → List Report → List ℕ
report_lines settings text [] = []
report_lines settings text (report ∷ others) = report_line settings text report ++ report_lines settings text others

-- `START END RULE TEXT` and a line feed: the two places as the report has them, in bytes from 0
abbrev pub span_line : Report → List ℕ
span_line report = decimal report.start ++ codes " " ++ decimal report.stop ++ codes " " ++ report.rule ++ codes " " ++ report.text ++ 10 ∷ []

-- such a line for each report, in their order
abbrev pub span_lines : List Report → List ℕ
span_lines [] = []
span_lines (report ∷ others) = span_line report ++ span_lines others

-- 1 where there is a report that is no warning, else 0
abbrev pub report_status : Settings → List Report → ℕ
report_status settings reports = cond (list_all (λ report. is_warning report.rule settings) reports) 0 1
