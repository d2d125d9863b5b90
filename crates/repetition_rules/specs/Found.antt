-- What rules on what stands twice find in a script: of each node what each rule reports, parts before their node.
use Rattle.std.specs.Prelude.{List, [], ◌∷◌, ◌++◌}
use Rattle.tree.specs.Tree.{Tree}
use Rattle.tree.specs.Flat.{post_order}
use Rattle.rule_words.specs.Reports.{Report}
use Rattle.repetition_rules.specs.declared.repetition_rule.RepetitionRule.{RepetitionRule}
use Rattle.repetition_rules.specs.Rows.{of_node}

-- what is said of each
abbrev pub each : {X : Type 0} → (X → List Report) → List X → List Report
each f [] = []
each f (x ∷ xs) = f x ++ each f xs

-- what rules say of nodes
abbrev pub over_nodes : List RepetitionRule → List Tree → List Report
over_nodes rules trees = each (λ tree. each (λ rule. of_node rule tree) rules) trees

abbrev pub found_by_rules : List RepetitionRule → Tree → List Report
found_by_rules rules tree = over_nodes rules (post_order tree)

-- one rule
abbrev pub found_by_rule : RepetitionRule → Tree → List Report
found_by_rule rule tree = found_by_rules (rule ∷ []) tree
