use Rattle.std.proofs.Common.{sym, ◌∙◌}
use Rattle.paren_planner.proofs.FreeRows.{free_row, free_used}
use Rattle.paren_planner.proofs.cost_pass.free_rank.Goals as goal

pub returns-clause-used : goal.returns-clause-used
returns-clause-used c = free_used c.args.visit.now c.in-Some.requirements c.in-Some.is (sym c.asks_no_more.ensures ∙ c.if-not-asks_no_more.false) (sym c.stands_freely.ensures ∙ c.if-not-stands_freely.false)

pub returns-clause-row : goal.returns-clause-row
returns-clause-row c = free_row c.args.visit.now c.in-Some.requirements c.in-Some.is (sym c.asks_no_more.ensures ∙ c.if-not-asks_no_more.false)
