use Rattle.lint.proofs.check_command.lines_of.Goals as goal

pub returns-in-Places : goal.returns-in-Places
returns-in-Places c = rw c.in-Places.is c.report_lines.ensures

pub returns-in-Spans : goal.returns-in-Spans
returns-in-Spans c = rw c.in-Spans.is c.span_lines.ensures
