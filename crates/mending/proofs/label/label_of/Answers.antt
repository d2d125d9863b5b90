use Rattle.tree.specs.Node.{node_tree}
use Rattle.mending.specs.Making.{labelled}
use Rattle.mending.proofs.MendSteps.{leads_by}
use Rattle.mending.proofs.label.label_of.Goals as goal

pub returns-in-Some : goal.returns-in-Some
returns-in-Some c = leads_by c.args.changes.now (node_tree c.args.node) (labelled (node_tree c.args.node) c.in-Some.label) _ (c.is_asked.ensures c.if-not-is_asked.false) c.in-Some.ensures
