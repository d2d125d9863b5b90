use Rattle.std.proofs.Common.{◌∙◌, ap, sym}
use Rattle.spelling_table.specs.Outlines.{role_of, slot_of}
use Rattle.cost_table.specs.Costs.{sums}
use Rattle.cost_table.specs.Weighed.{uses}
use Rattle.cost_certificate.specs.Walked.{weight_of}
use Rattle.cost_certificate.proofs.WeighedNodes.{free_adds_nothing}
use Rattle.cost_certificate.proofs.weighed.with_part.Goals as goal

pub returns-then-slot_takes : goal.returns-then-slot_takes
returns-then-slot_takes c =
    free_adds_nothing c.args.sums (slot_of c.args.slot) (role_of c.args.own) c.in-Free.rank c.requires (sym c.slot_takes.ensures ∙ c.if-slot_takes.true)
    ∙ ap (λ w. sums c.args.sums (uses (role_of c.args.own) (slot_of c.args.slot) (weight_of w))) (sym c.in-Free.is)

pub returns : goal.returns
returns c = c.added.ensures ∙ ap (λ w. sums c.args.sums (uses (role_of c.args.own) (slot_of c.args.slot) w)) c.costs.ensures
