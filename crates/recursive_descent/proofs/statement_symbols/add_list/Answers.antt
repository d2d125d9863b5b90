use Rattle.std.proofs.Common.{refl}
use Rattle.tree.specs.Tree.{join}
use Rattle.recursive_descent.proofs.reading.WaitingNodes.{push_waits, join_waits}
use Rattle.recursive_descent.proofs.statement_symbols.add_list.Goals as goal

pub returns-in_ok-into_parameters-in-Parameters-clause-waits : goal.returns-in_ok-into_parameters-in-Parameters-clause-waits
returns-in_ok-into_parameters-in-Parameters-clause-waits c = λ base h.
    join_waits c.append.new.self base c.args.built.now.nodes c.in_ok-into_parameters-in-Parameters.field-0 refl (c.in_ok-into_parameters-in-Parameters.ensures.waits (join base c.args.built.now.nodes) h) c.append.result c.append.ensures.joined

pub returns-in_ok-body-in-Members-clause-waits : goal.returns-in_ok-body-in-Members-clause-waits
returns-in_ok-body-in-Members-clause-waits c = λ base h.
    push_waits c.push.new.self base c.args.built.now.nodes c.in_ok-body-in-Members.body refl (c.in_ok-body-in-Members.ensures.waits (join base c.args.built.now.nodes) h) c.push.result c.push.ensures.pushed

pub returns-in-Declarators-clause-waits : goal.returns-in-Declarators-clause-waits
returns-in-Declarators-clause-waits c = λ base h. join_waits c.append-in-Declarators.new.self base c.args.built.now.nodes c.args.list.nodes refl h c.append-in-Declarators.result c.append-in-Declarators.ensures.joined
