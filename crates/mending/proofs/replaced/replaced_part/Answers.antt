use Rattle.tree.specs.Node.{node_tree}
use Rattle.mending.proofs.MendSteps.{takes_place}
use Rattle.mending.proofs.replaced.replaced_part.Goals as goal

pub returns : goal.returns
returns c = takes_place c.args.changes.now (node_tree c.args.node) c.in-Some.rule c.part_by.result (c.is_asked.ensures c.if-not-is_asked.false) c.part_by.ensures.is c.part_by.ensures.smaller
