-- What is said of a node and of all below it, in the order of the source, a node behind its parts.
use Rattle.std.specs.Prelude.{List, [], ◌++◌}
use Rattle.tree.specs.Tree.{Tree, node, Parts, none, part, gap}
use Rattle.rule_words.specs.Reports.{Report}
use Rattle.flow_rules.specs.declared.around.Around.{Around}
use Rattle.flow_rules.specs.declared.flow.Flow.{Flow}
use Rattle.flow_rules.specs.Arounds.{inside, behind, behind_gap}
use Rattle.flow_rules.specs.Flows.{flow_of}

unfoldable mutual
  pub over_nodes : (Around → Flow → Tree → List Report) → Around → Tree → List Report
  over_nodes f z (node kind text flags from to parts) =
      over_parts f (inside z (node kind text flags from to parts)) parts ++ f z (flow_of (node kind text flags from to parts)) (node kind text flags from to parts)

  -- parts, with what stands round the first of them
  pub over_parts : (Around → Flow → Tree → List Report) → Around → Parts → List Report
  over_parts f z none = []
  over_parts f z (part tree rest) = over_nodes f z tree ++ over_parts f (behind z (flow_of tree) tree) rest
  over_parts f z (gap rest) = over_parts f (behind_gap z) rest
