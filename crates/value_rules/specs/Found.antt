-- What rules on the values of literals find in a script: of each literal what each rule reports, parts before their node.
use Rattle.std.specs.Prelude.{Bool, true, false, cond, List, [], ◌∷◌, ◌++◌}
use Rattle.tree.specs.declared.kind.Kind.{Kind}
use Rattle.tree.specs.declared.kind.Kind.TheVariants.{Literal}
use Rattle.tree.specs.Flat.{post_order}
use Rattle.tree.specs.Tree.{Tree, kind_of, start_of, stop_of, text_of}
use Rattle.rule_words.specs.Reports.{Report}
use Rattle.value_rules.specs.declared.value_rule.ValueRule.{ValueRule}
use Rattle.value_rules.specs.Rows.{called, holds, says}

abbrev pub is_literal : Kind → Bool
is_literal Literal = true
is_literal _ = false

-- a report at a node
abbrev pub reported : ValueRule → Tree → List Report
reported rule tree = record { start = start_of tree; stop = stop_of tree; rule = called rule; text = says rule } ∷ []

abbrev pub of_literal : ValueRule → Tree → List Report
of_literal rule tree = cond (holds rule (text_of tree)) (reported rule tree) []

-- what is said of each
abbrev pub each : {X : Type 0} → (X → List Report) → List X → List Report
each f [] = []
each f (x ∷ xs) = f x ++ each f xs

-- of a node what each rule says of it
abbrev pub of_node : ValueRule → Tree → List Report
of_node rule tree = cond (is_literal (kind_of tree)) (of_literal rule tree) []

-- what rules say of nodes
abbrev pub over_nodes : List ValueRule → List Tree → List Report
over_nodes rules trees = each (λ tree. each (λ rule. of_node rule tree) rules) trees

abbrev pub found_by_rules : List ValueRule → Tree → List Report
found_by_rules rules tree = over_nodes rules (post_order tree)

-- one rule
abbrev pub found_by_rule : ValueRule → Tree → List Report
found_by_rule rule tree = found_by_rules (rule ∷ []) tree
