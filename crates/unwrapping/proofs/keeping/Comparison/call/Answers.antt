use Rattle.std.proofs.Common.{false, refl}
use Rattle.std.specs.Prelude.{Some}
use Rattle.unwrapping.proofs.CompareSteps.{each_ok, leads_called}
use Rattle.unwrapping.proofs.keeping.Comparison.call.Goals as goal

pub returns-clause-leads : goal.returns-clause-leads
returns-clause-leads c =
    let old = c.args.self.now in
    each_ok c.pass-2.result (λ passes text. leads_called {text = text} {unwrapped = c.args.unwrapped.now} old (record { text = old.text; unwrapped = c.pass-2.new.self; comment_count = Some c.comment_count.result; may_end = false; alike = false }) c.pass.new.self c.requires
    (c.in_ok-opened.ensures c.if-not-opened.false) passes refl refl refl) c.pass-2.ensures
