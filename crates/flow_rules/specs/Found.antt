-- What rules on completions find in a script.
use Rattle.std.specs.Prelude.{ℕ, List}
use Rattle.tree.specs.Tree.{Tree}
use Rattle.rule_words.specs.Reports.{Report}
use Rattle.flow_rules.specs.declared.flow_rule.FlowRule.{FlowRule}
use Rattle.flow_rules.specs.Arounds.{round_root}
use Rattle.flow_rules.specs.Over.{over_nodes}
use Rattle.flow_rules.specs.Rows.{of_node, of_rules}

-- one rule; the source is the text of the script
abbrev pub found_by_rule : (source : List ℕ) → FlowRule → Tree → List Report
found_by_rule source rule tree = over_nodes (of_node source rule) round_root tree

-- rules in one walk
abbrev pub found_by_rules : (source : List ℕ) → List FlowRule → Tree → List Report
found_by_rules source rules tree = over_nodes (of_rules source rules) round_root tree
