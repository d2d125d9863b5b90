use Rattle.std.proofs.Common.{◌≡◌, ◌++◌, drop, string_bytes}
use Rattle.rules.specs.Lines.{report_lines}
use Rattle.source_text.specs.Located.{IsLocated}
use Rattle.rules.proofs.lines.report_lines.Given as goal

abbrev pub invariant-loop-report : goal.invariant-loop-report
invariant-loop-report l = record {
  located : IsLocated l.source l.here;
  written : string_bytes l.lines ++ report_lines l.settings l.source (drop l.report-index l.reports) ≡ report_lines l.settings l.source l.reports;
}
