use Rattle.std.proofs.Common.{◌≤◌, ◌<◌, ◌≡◌, ◌∙◌, ℕ, ap, subst, sym, string_bytes}
use Rattle.std.specs.Str.{IsCharBoundary}
use Rattle.rules.specs.Lines.{line_of, mark_of}
use Rattle.rules.specs.Settings.{is_warning}
use Rattle.rules.proofs.ReportLoop.{line_is, turn}
use Rattle.rules.proofs.lines.report_lines.Goals as goal

pub loop-report-preserved : goal.loop-report-preserved
loop-report-preserved c =
    let text = c.args.source.now in
    let settings = c.args.settings.now in
    let report = c.report-item.result in
    let place = c.floor_char_boundary-place.result in
    let floor = c.floor_char_boundary-place.ensures in
    let at : ℕ × ℕ = (c.moved-here.result.line, c.moved-here.result.column) in
    let boundary : IsCharBoundary text place = subst (λ t. IsCharBoundary t place) c.text.ensures.value floor.boundary in
    let below : place ≤ report.start = subst (λ n. place ≤ n) c.start.ensures floor.bound in
    let nearest : (i : ℕ) → place < i → i ≤ report.start → IsCharBoundary text i → ⊥ =
    λ i lt le is. floor.nearest i lt (subst (λ n. i ≤ n) (sym c.start.ensures) le) (subst (λ t. IsCharBoundary t i) (sym c.text.ensures.value) is) in
    let marked : c.mark_of-mark.result.now ≡ mark_of (is_warning report.rule settings) =
    c.mark_of-mark.ensures ∙ ap mark_of (c.is_warning-is_warning.ensures ∙ ap (λ rule. is_warning rule settings) c.rule.ensures) in
    record {
      located = c.moved-here.ensures.there;
      written = turn settings text c.args.reports.now c.loop-report.report-index report (string_bytes c.loop-report.lines) (string_bytes c.push_line.new.lines) _
          (line_of at report c.mark_of-mark.result.now) c.loop-report-test.true c.report-item.is c.in_ok-push_line.ensures
          (ap (line_of at report) marked ∙ line_is settings text c.moved-here.result report place c.text.ensures.utf8 c.moved-here.ensures.there c.moved-here.ensures.place below boundary nearest)
          c.loop-report.invariant.written;
    }
