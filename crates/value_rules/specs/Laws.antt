-- Laws of rules on the values of literals.
use Rattle.std.specs.Prelude.{List, [], ◌∷◌, ◌++◌}
use Rattle.std.specs.List.Sorted.{IsPermutation}
use Rattle.tree.specs.Tree.{Tree}
use Rattle.rule_words.specs.Reports.{Report}
use Rattle.value_rules.specs.declared.value_rule.ValueRule.{ValueRule}
use Rattle.value_rules.specs.Found.{found_by_rule, found_by_rules}

-- what each of the rules finds, rule after rule
abbrev pub each_alone : List ValueRule → Tree → List Report
each_alone [] tree = []
each_alone (rule ∷ rules) tree = found_by_rule rule tree ++ each_alone rules tree

-- rules in one walk find what each of them finds alone, in another order
abbrev pub FindTogether : Type 0
FindTogether = (rules : List ValueRule) (tree : Tree) → IsPermutation (each_alone rules tree) (found_by_rules rules tree)
