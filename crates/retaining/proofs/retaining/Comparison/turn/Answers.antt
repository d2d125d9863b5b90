use Rattle.std.proofs.Common.{refl, sym, ◌∙◌}
use Rattle.retaining.specs.Retains.{is_free}
use Rattle.retaining.specs.Comparing.{recent_in, words_in}
use Rattle.unwrapping.proofs.CompareSteps.{each_ok}
use Rattle.retaining.proofs.RetainSteps.{leads_gone, leads_come}
use Rattle.retaining.proofs.retaining.Comparison.turn.Goals as goal

pub returns-then-is_free-clause-leads : goal.returns-then-is_free-clause-leads
returns-then-is_free-clause-leads c =
    let old = c.args.self.now in
    let is = c.bytes.ensures.value in
    each_ok c.pass.result (λ passes. leads_gone {text = c.args.source.now} {formatted = c.args.formatted.now} old (record { text = c.pass.new.self; formatted = old.formatted })
    ((λ i. is_free (recent_in (sym is i) old.text) (words_in (sym is i) old.text.rows.now)) ∙ c.is_free.ensures c.if-is_free.true) passes refl) c.pass.ensures

pub returns-then-is_free-2-clause-leads : goal.returns-then-is_free-2-clause-leads
returns-then-is_free-2-clause-leads c =
    let old = c.args.self.now in
    let is = c.bytes-2.ensures.value in
    each_ok c.pass-then-is_free-2.result (λ passes. leads_come {text = c.args.source.now} {formatted = c.args.formatted.now} old (record { text = old.text; formatted = c.pass-then-is_free-2.new.self })
    ((λ i. is_free (recent_in (sym is i) old.formatted) (words_in (sym is i) old.formatted.rows.now)) ∙ c.is_free-2.ensures c.if-is_free-2.true) passes refl) c.pass-then-is_free-2.ensures
