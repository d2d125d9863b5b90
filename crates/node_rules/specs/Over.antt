-- What is reported of a node and of all below it, in the order of the tree.
use Rattle.std.specs.Prelude.{ℕ, ◌+◌, List, [], ◌++◌}
use Rattle.tree.specs.Tree.{Tree, node, Parts, none, part, gap}
use Rattle.rule_words.specs.Reports.{Report}
use Rattle.node_rules.specs.declared.around.Around.{Around}
use Rattle.node_rules.specs.Arounds.{inside, at_place}

unfoldable mutual
  pub over_nodes : (Around → Tree → List Report) → Around → Tree → List Report
  over_nodes f around (node kind text flags from to parts) = f around (node kind text flags from to parts) ++ over_parts f (inside around (node kind text flags from to parts)) 0 parts

  -- parts, the first of them at this place
  pub over_parts : (Around → Tree → List Report) → Around → ℕ → Parts → List Report
  over_parts f around i none = []
  over_parts f around i (part tree rest) = over_nodes f (at_place around i) tree ++ over_parts f around (i + 1) rest
  over_parts f around i (gap rest) = over_parts f around (i + 1) rest
