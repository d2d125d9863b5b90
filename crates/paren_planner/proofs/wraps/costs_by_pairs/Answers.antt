use Rattle.paren_planner.proofs.Bytes.{derived_least}
use Rattle.paren_planner.proofs.PassedNodes.{derived_passing, derived_few}
use Rattle.paren_planner.proofs.Plans.{total_of}
use Rattle.paren_planner.proofs.wraps.costs_by_pairs.Goals as goal

pub weigh_by_pairs-requires : goal.weigh_by_pairs-requires
weigh_by_pairs-requires c = λ m. derived_passing c.args.program.now c.args.pairs.now c.requires

pub returns : goal.returns
returns c =
    let n = c.args.program.now in
    let P = c.args.pairs.now in
    let few = derived_few n P c.requires in
    total_of n c.in_ok-weights.weights.total c.number.result c.in_ok-weights.ensures.total (derived_least c.requires.language c.requires.text n P c.requires.derived) few c.number.ensures
