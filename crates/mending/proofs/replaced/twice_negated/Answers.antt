use Rattle.std.specs.Prelude.{option_map}
use Rattle.tree.specs.Node.{node_tree}
use Rattle.mending.proofs.MendSteps.{first_smaller}
use Rattle.mending.proofs.replaced.twice_negated.Goals as goal

pub returns-then-is_not-2-clause-smaller : goal.returns-then-is_not-2-clause-smaller
returns-then-is_not-2-clause-smaller c = first_smaller (node_tree c.args.node) (option_map node_tree c.part-inner.result) c.first_of.result c.part-inner.ensures c.first_of.ensures
