use Rattle.std.proofs.Common.{sym, ap, ◌∙◌}
use Rattle.spelling_table.specs.Outlines.{role_of}
use Rattle.cost_table.specs.Costs.{sums}
use Rattle.cost_table.proofs.node_costs.added.Goals as goal

pub returns-then-is_free : goal.returns-then-is_free
returns-then-is_free c = sym c.requires ∙ sym (ap (sums c.args.sums) (c.is_free.ensures c.if-is_free.true (role_of c.args.own)))
