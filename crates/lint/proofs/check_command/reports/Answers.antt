use Rattle.std.proofs.Common.{◌∙◌, sym, ap, subst}
use Rattle.rules.specs.Rules.{View}
use Rattle.rules.specs.RuleViews.{found_or_nothing, seen}
use Rattle.lint.specs.Asked.{HasExtra}
use Rattle.lint.proofs.CheckAnswers.{whole_reports}
use Rattle.lint.proofs.check_command.reports.Goals as goal

pub returns : goal.returns
returns g c = λ language.
    let v : View = seen c.new-view.result in
    let n = c.args.parsed.now.program in
    let P = c.args.parsed.now.pairs.items in
    let made = c.new-view.ensures in
    whole_reports _ _ c.args.names.now c.args.rules.now language c.args.source.now n P c.args.settings.now v c.in_ok-scopes.scopes c.in_ok-reports.reports.items c.requires.utf8
    (ap (λ (w : View). w.tree) made ∙ c.program.ensures)
    (ap (λ (w : View). w.text) made ∙ c.text.ensures.value)
    (ap (λ (w : View). w.settings) made)
    (ap (λ (w : View). w.found) made ∙ ap found_or_nothing c.as_ref.ensures.value)
    c.in_ok-scopes.ensures
    (subst (HasExtra c.args.names.now c.args.rules.now c.args.settings.now n P) (sym (ap (λ (w : View). w.extra) made ∙ c.deref.ensures.value)) c.in_ok-extra.ensures)
    c.in_ok-reports.ensures.found
    c.in_ok-reports.ensures.sorted
