use Rattle.std.proofs.Common.{◌∙◌, ap, sym}
use Rattle.tree.specs.Tree.{push}
use Rattle.recursive_descent.proofs.reading.WaitingNodes.{waits_one}
use Rattle.recursive_descent.proofs.lists.element.Goals.{then-spreads+in_ok-node, else-spreads}
use Rattle.recursive_descent.proofs.lists.element.Goals as goal

pub returns-clause-waits : goal.returns-clause-waits
returns-clause-waits c = λ base h. elim c.if-spreads.branch [
  | then-spreads+in_ok-node w ↦ w.tree-is ∙ w.in_ok-node.ensures.waits base (waits_one base h w.one-nodes.ensures) ∙ ap (push base) (sym w.node-is)
  | else-spreads w ↦ w.tree-is ∙ h ∙ ap (push base) (sym w.node-is)
]
