-- Rules on nodes that run in one walk.
use Rattle.std.specs.Prelude.{◌≡◌, List}
use Rattle.rule_words.specs.Reports.{Report}
use Rattle.node_rules.specs.Found.{found_by_rules}
use Rattle.node_rules.specs.declared.node_rule.NodeRule.{NodeRule}
use Rattle.rules.specs.Rules.{View, node_options, on_nodes}

-- what they find in a view
abbrev pub found_on_nodes : List NodeRule → View → List Report
found_on_nodes rules v = found_by_rules (node_options v.settings) v.text rules v.tree

-- a rule finds what a rule on nodes finds
abbrev pub IsOnNodes : NodeRule → (View → List Report) → Type 0
IsOnNodes rule finds = (v : View) → finds v ≡ on_nodes rule v
