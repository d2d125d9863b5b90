use Rattle.std.proofs.Common.{◌≡◌, ◌++◌, drop, string_bytes}
use Rattle.rules.specs.Lines.{span_lines}
use Rattle.rules.proofs.lines.span_lines.Given as goal

abbrev pub invariant-loop-report : goal.invariant-loop-report
invariant-loop-report l = string_bytes l.lines ++ span_lines (drop l.report-index l.reports) ≡ span_lines l.reports
