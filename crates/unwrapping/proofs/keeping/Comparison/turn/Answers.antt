use Rattle.std.proofs.Common.{false, refl, sym, ◌∙◌}
use Rattle.std.specs.Prelude.{None}
use Rattle.unwrapping.proofs.CompareSteps.{each_ok, leads_gone, leads_put}
use Rattle.unwrapping.proofs.keeping.Comparison.turn.Goals as goal

pub returns-then-is_grouping-clause-leads : goal.returns-then-is_grouping-clause-leads
returns-then-is_grouping-clause-leads c =
    let old = c.args.self.now in
    each_ok c.pass.result (λ passes. leads_gone {text = c.args.source.now} {unwrapped = c.args.unwrapped.now} old (record { text = c.pass.new.self; unwrapped = old.unwrapped; comment_count = None; may_end = old.may_end; alike = false })
    (sym c.is_grouping.ensures ∙ c.if-is_grouping.true) passes refl refl refl) c.pass.ensures

pub returns-then-is_grouping-2-clause-leads : goal.returns-then-is_grouping-2-clause-leads
returns-then-is_grouping-2-clause-leads c =
    let old = c.args.self.now in
    each_ok c.pass-then-is_grouping-2.result (λ passes. leads_put {text = c.args.source.now} {unwrapped = c.args.unwrapped.now} old (record { text = old.text; unwrapped = c.pass-then-is_grouping-2.new.self; comment_count = old.comment_count; may_end = old.may_end; alike = false })
    (sym c.is_grouping-2.ensures ∙ c.if-is_grouping-2.true) passes refl refl refl) c.pass-then-is_grouping-2.ensures
