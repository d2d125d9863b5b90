use Rattle.std.proofs.Common.{refl}
use Rattle.tree.specs.Tree.{join}
use Rattle.recursive_descent.proofs.reading.WaitingNodes.{push_waits}
use Rattle.recursive_descent.proofs.statement_symbols.add_for_declaration.Goals as goal

pub returns-clause-waits : goal.returns-clause-waits
returns-clause-waits c = λ base h. push_waits c.push.new.self base c.args.built.now.nodes c.in_ok-node.node refl (c.in_ok-node.ensures.waits (join base c.args.built.now.nodes) h) c.push.result c.push.ensures.pushed
