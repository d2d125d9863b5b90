use Rattle.std.proofs.Common.{sym, ◌∙◌}
use Rattle.spelling_table.specs.Outlines.{slot_of}
use Rattle.cost_table.proofs.Plainly.{free_uses}
use Rattle.cost_table.proofs.node_costs.is_plainly_free.Goals as goal

pub returns : goal.returns
returns c = λ h a.
    free_uses (slot_of c.args.slot) c.args.part.now c.in-Some.outline c.in-Some.is
    (sym c.asks_no_more.ensures ∙ c.if-not-asks_no_more.false) (sym c.slot_takes.ensures ∙ c.if-not-slot_takes.false) (c.is_free.ensures h) a
