-- Laws of rules on completions.
use Rattle.std.specs.Prelude.{ℕ, List, [], ◌∷◌, ◌++◌}
use Rattle.std.specs.List.Sorted.{IsPermutation}
use Rattle.tree.specs.Tree.{Tree}
use Rattle.rule_words.specs.Reports.{Report}
use Rattle.flow_rules.specs.declared.flow_rule.FlowRule.{FlowRule}
use Rattle.flow_rules.specs.Found.{found_by_rule, found_by_rules}

-- what each of the rules finds, rule after rule
abbrev pub each_alone : (source : List ℕ) → List FlowRule → Tree → List Report
each_alone source [] tree = []
each_alone source (rule ∷ rules) tree = found_by_rule source rule tree ++ each_alone source rules tree

-- rules in one walk find what each of them finds alone, in another order
abbrev pub FindTogether : Type 0
FindTogether = (source : List ℕ) (rules : List FlowRule) (tree : Tree) → IsPermutation (each_alone source rules tree) (found_by_rules source rules tree)
