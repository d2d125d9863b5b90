use Rattle.std.proofs.Common.{string_bytes}
use Rattle.rules.proofs.ReportLoop.{span_turn}
use Rattle.rules.proofs.lines.span_lines.Goals as goal

pub loop-report-preserved : goal.loop-report-preserved
loop-report-preserved c = span_turn c.args.reports.now c.loop-report.report-index c.report-item.result (string_bytes c.loop-report.lines) (string_bytes c.push_span_line.new.lines) _
    c.loop-report-test.true c.report-item.is c.in_ok-push_span_line.ensures c.loop-report.invariant
