use Rattle.std.proofs.Common.{◌&&◌, ◌∙◌, ap, sym}
use Rattle.std.specs.Prelude.{not}
use Rattle.spelling_table.specs.Outlines.{role_of}
use Rattle.spelling_table.specs.Productions.{outline_of}
use Rattle.cost_table.specs.Weighed.{is_otherwise}
use Rattle.cost_certificate.proofs.WeighedNodes.{fitted_any, fitted_free}
use Rattle.cost_certificate.proofs.weighed.weigh_inside.Goals as goal

pub returns-then-is_nothing : goal.returns-then-is_nothing
returns-then-is_nothing c =
    let known = c.requirements-requirements.ensures in
    fitted_free (role_of c.args.own) (outline_of c.args.production) c.args.sums c.requirements-requirements.result.rank
    (sym (ap (λ q. not q.needs_in && is_otherwise q.opens) known) ∙ sym c.asks_no_more.ensures ∙ c.if-asks_no_more.true) (c.is_nothing.ensures c.if-is_nothing.true) (ap (λ q. q.rank) known)

pub returns : goal.returns
returns c = fitted_any (role_of c.args.own) (outline_of c.args.production) c.args.sums c.in_numbers.result c.in_numbers.ensures
