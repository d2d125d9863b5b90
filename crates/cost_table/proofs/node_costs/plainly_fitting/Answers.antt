use Rattle.std.proofs.Common.{◌∙◌, sym, ap, true, false}
use Rattle.spelling_table.specs.Outlines.{role_of}
use Rattle.spelling_table.specs.Requirements.{fits_outline}
use Rattle.cost_table.proofs.Plainly.{plain_fitting}
use Rattle.cost_table.proofs.node_costs.plainly_fitting.Goals as goal

pub returns-then-fits : goal.returns-then-fits
returns-then-fits c =
    sym (plain_fitting c.args.outline (role_of c.args.own) c.args.costs true c.requires (ap (λ r. fits_outline r c.args.outline) (sym c.with_own.ensures) ∙ sym c.fits.ensures ∙ c.if-fits.true))

pub returns : goal.returns
returns c =
    (λ j. record { has_in = c.args.costs.has_in; without_in = c.args.costs.without_in; at_member = c.same.ensures j })
    ∙ sym (plain_fitting c.args.outline (role_of c.args.own) c.args.costs false c.requires (ap (λ r. fits_outline r c.args.outline) (sym c.with_own.ensures) ∙ sym c.fits.ensures ∙ c.if-fits.false))
