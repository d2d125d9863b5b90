use Rattle.std.proofs.Common.{◌∙◌, ap}
use Rattle.language.specs.Pieces.{script, fixed}
use Rattle.paren_planner.specs.Passing.{may_pass, pairs_of}
use Rattle.paren_planner.specs.Noted.{Steps}
use Rattle.paren_planner.proofs.WalkSteps.{noted_first}
use Rattle.paren_planner.proofs.Backwards.{script_rows, script_total}
use Rattle.paren_planner.proofs.PassedNodes.{script_passing}
use Rattle.paren_planner.proofs.planner.weigh_by_pairs.Goals as goal

pub visit_node-requires-clause-passing : goal.visit_node-requires-clause-passing
visit_node-requires-clause-passing c = λ m. script_passing (pairs_of c.args.pairs.now) c.args.program.now c.finished_root.result (c.requires m) c.finished_root.ensures.tree c.finished_root.ensures.rows

pub returns-clause-made : goal.returns-clause-made
returns-clause-made c =
    let h : Steps (may_pass c.args.pairs.now) script (fixed script) c.args.program.now _ = noted_first _ _ _ _ _ _ _ _ c.finished_root.ensures.tree c.new-steps.ensures c.in_ok-visit_node.ensures in
    record { are = h; rows = c.in_ok-sums.ensures.rows ∙ script_rows c.args.program.now _ h }

pub returns-clause-total : goal.returns-clause-total
returns-clause-total c = ap (λ d. d.has_in.any) c.in_ok-sums.ensures.sums ∙ script_total c.args.program.now _ (noted_first _ _ _ _ _ _ _ _ c.finished_root.ensures.tree c.new-steps.ensures c.in_ok-visit_node.ensures)
