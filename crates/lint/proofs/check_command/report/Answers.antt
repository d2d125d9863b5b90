use Rattle.std.proofs.Common.{◌∙◌, ap}
use Rattle.rules.specs.Lines.{report_status}
use Rattle.lint.specs.Steps.{lines_in}
use Rattle.lint.proofs.check_command.report.Goals as goal

pub returns-clause-lines : goal.returns-clause-lines
returns-clause-lines g c = λ language. record {
  reports = c.in_ok-reports.reports.items;
  are_reports = c.in_ok-reports.ensures language;
  are_lines = c.in_ok-lines.ensures ∙ ap (lines_in c.args.form c.args.settings.now c.args.source.now) c.deref.ensures.value;
  is_status = c.report_status.ensures ∙ ap (report_status c.args.settings.now) c.deref-2.ensures.value;
}
