-- What rules on nodes find in a script.
use Rattle.std.specs.Prelude.{ℕ, List}
use Rattle.tree.specs.Tree.{Tree}
use Rattle.rule_words.specs.Reports.{Report}
use Rattle.node_rules.specs.declared.node_rule.NodeRule.{NodeRule}
use Rattle.node_rules.specs.declared.node_rule.NodeOptions.{NodeOptions}
use Rattle.node_rules.specs.Arounds.{round_root}
use Rattle.node_rules.specs.Over.{over_nodes}
use Rattle.node_rules.specs.Rows.{of_node, of_rules}

-- one rule
abbrev pub found_by_rule : NodeOptions → List ℕ → NodeRule → Tree → List Report
found_by_rule options source rule tree = over_nodes (of_node options source rule) round_root tree

-- rules in one walk
abbrev pub found_by_rules : NodeOptions → List ℕ → List NodeRule → Tree → List Report
found_by_rules options source rules tree = over_nodes (of_rules options source rules) round_root tree
