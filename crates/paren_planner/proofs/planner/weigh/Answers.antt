use Rattle.std.proofs.Common.{◌∙◌, refl}
use Rattle.paren_planner.proofs.Results.{if_ok}
use Rattle.paren_planner.proofs.MadeRows.{made_true}
use Rattle.paren_planner.proofs.planner.weigh.Goals as goal

pub returns-clause-rows : goal.returns-clause-rows
returns-clause-rows c = if_ok c.weigh_by_pairs.result _ _ (λ w h. h.rows ∙ made_true h.are refl) c.weigh_by_pairs.ensures.made

pub returns-clause-steps : goal.returns-clause-steps
returns-clause-steps c = if_ok c.weigh_by_pairs.result _ _ (λ w h. h.are) c.weigh_by_pairs.ensures.made
