use Rattle.paren_planner.proofs.PassedNodes.{derived_passing, derived_few}
use Rattle.paren_planner.proofs.wraps.wraps_by_pairs.Goals as goal

pub weigh_by_pairs-requires : goal.weigh_by_pairs-requires
weigh_by_pairs-requires c = λ m. derived_passing c.args.program.now c.args.pairs.now c.requires

pub weighed_wraps-requires-clause-few : goal.weighed_wraps-requires-clause-few
weighed_wraps-requires-clause-few c = derived_few c.args.program.now c.args.pairs.now c.requires
