use Rattle.std.proofs.Common.{◌∙◌}
use Rattle.recursive_descent.proofs.reading.WaitingNodes.{gap_waits, push_waits}
use Rattle.recursive_descent.proofs.parser.Parser.label_symbol.Goals as goal

pub returns-then-not-sees_identifier-clause-waits : goal.returns-then-not-sees_identifier-clause-waits
returns-then-not-sees_identifier-clause-waits c = λ base h. gap_waits c.push_gap.new.tree c.push_gap.new.self base c.args.built.now.nodes h c.push_gap.result c.push_gap.ensures.waits c.push_gap.ensures.pushed

pub returns-clause-waits : goal.returns-clause-waits
returns-clause-waits c = λ base h. push_waits c.push.new.self base c.args.built.now.nodes c.in_ok-name.name (c.identifier.ensures.same_tree ∙ h) c.in_ok-name.ensures.waits c.push.result c.push.ensures.pushed
