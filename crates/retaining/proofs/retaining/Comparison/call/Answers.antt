use Rattle.std.proofs.Common.{refl}
use Rattle.unwrapping.proofs.CompareSteps.{each_ok}
use Rattle.retaining.proofs.RetainSteps.{leads_called}
use Rattle.retaining.proofs.retaining.Comparison.call.Goals as goal

pub returns-clause-leads : goal.returns-clause-leads
returns-clause-leads c =
    let old = c.args.self.now in
    each_ok c.pass-2.result (λ passes text. leads_called {text = text} {formatted = c.args.formatted.now} old (record { text = old.text; formatted = c.pass-2.new.self }) c.pass.new.self c.requires
    (c.in_ok-opened.ensures c.if-not-opened.false) passes refl) c.pass-2.ensures
