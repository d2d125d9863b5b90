use Rattle.std.proofs.Common.{sym, ◌∙◌}
use Rattle.regular_expressions.proofs.Escapes.{unit_paired}
use Rattle.regular_expressions.proofs.hex.unit.Goals as goal

pub returns-clause-some : goal.returns-clause-some
returns-clause-some c =
    unit_paired c.args.is_unicode c.args.text.now c.args.at c.in-Some.lead.end c.in-Some-trail.trail.end c.in-Some.lead.value c.in-Some-trail.trail.value
    c.in-Some.ensures.some c.if-not-is_unicode.false (sym c.is_lead.ensures ∙ c.if-not-is_lead.false) c.in-Some-trail.ensures.some
