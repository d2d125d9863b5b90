use Rattle.paren_planner.proofs.Plans.{total_of}
use Rattle.paren_planner.proofs.planner.plan.Goals as goal

pub planned-requires-clause-total : goal.planned-requires-clause-total
planned-requires-clause-total c =
    total_of c.args.program.now c.in_ok-weights.weights.total c.number-total.result c.in_ok-weights.ensures.total c.requires.spelled c.requires.few c.number-total.ensures
